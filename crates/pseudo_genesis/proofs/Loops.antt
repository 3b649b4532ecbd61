-- The loops that read digests and the states of clues.
use Rattle.std.proofs.Common.{◌≡◌, ℕ, ◌+◌, ◌-◌, ◌*◌, ◌<◌, List, [], ◌∷◌, ◌++◌, Result, Ok, Err, subst, arith}
use Rattle.ledger_bytes.specs.declared.digest.Digest.{Digest}
use Rattle.ledger_bytes.specs.declared.failure.Bad.{Bad}
use Rattle.ledger_bytes.specs.Fields.{Unread, digest_at}
use Rattle.clue_index.specs.declared.state.ClueState.{ClueState}
use Rattle.pseudo_genesis.specs.Reading.{Before, any_digest_at, still, digests_at, state_at, behind, states_at}
use Rattle.pseudo_genesis.proofs.Many.{after_items, step_read, step_broken, all_read}

abbrev ReadDigests : Type 0
ReadDigests = Result (List Digest × Unread) Bad

pub digest_read : (count at : ℕ) (l after : Unread) (digests : List Digest) (digest : Digest) (whole : ReadDigests) → at < count → digest_at l ≡ Ok (digest, after)
    → whole ≡ after_items digests (digests_at (count - at) l) → whole ≡ after_items (digests ++ digest ∷ []) (digests_at (count - (at + 1)) after)
unfolding digests_at
digest_read count at l after digests digest whole below is so_far = step_read any_digest_at still count at tt l after digests digest whole below is so_far

pub digest_broken : (count at : ℕ) (l : Unread) (digests : List Digest) (bad : Bad) (whole : ReadDigests) → at < count → digest_at l ≡ Err bad → whole ≡ after_items digests (digests_at (count - at) l) → whole ≡ Err bad
unfolding digests_at
digest_broken count at l digests bad whole below is so_far = step_broken any_digest_at still count at tt l digests bad whole below is so_far

pub digests_read : (count at : ℕ) (l : Unread) (digests : List Digest) (whole : ReadDigests) → at ≡ count → whole ≡ after_items digests (digests_at (count - at) l) → whole ≡ Ok (digests, l)
unfolding digests_at
digests_read count at l digests whole done so_far = all_read any_digest_at still count at tt l digests whole done so_far

abbrev ReadStates : Type 0
ReadStates = Result (List ClueState × Unread) Bad

module _ (point count place i : ℕ) (before : Digest) (l : Unread) (states : List ClueState) (whole : ReadStates) where
  abbrev here : Before
  here = record { clue = before; place = place + 44 * i }

  pub state_read : (after : Unread) (state : ClueState) → i < count → state_at point here l ≡ Ok (state, after) → whole ≡ after_items states (states_at point (count - i) here l)
      → whole ≡ after_items (states ++ state ∷ []) (states_at point (count - (i + 1)) (record { clue = state.clue; place = place + 44 * (i + 1) }) after)
  unfolding states_at
  state_read after state below is so_far =
      let along : place + 44 * i + 44 ≡ place + 44 * (i + 1) = omega arith in
      subst (λ n. whole ≡ after_items (states ++ state ∷ []) (states_at point (count - (i + 1)) (record { clue = state.clue; place = n }) after)) along
      (step_read (state_at point) behind count i here l after states state whole below is so_far)

  pub state_broken : (bad : Bad) → i < count → state_at point here l ≡ Err bad → whole ≡ after_items states (states_at point (count - i) here l) → whole ≡ Err bad
  unfolding states_at
  state_broken bad below is so_far = step_broken (state_at point) behind count i here l states bad whole below is so_far

  pub states_read : i ≡ count → whole ≡ after_items states (states_at point (count - i) here l) → whole ≡ Ok (states, l)
  unfolding states_at
  states_read done so_far = all_read (state_at point) behind count i here l states whole done so_far
