-- When nothing is pending on either disk.
use Rattle.std.specs.Prelude.{Bool, true, false, not}
use Rattle.std.proofs.Common.{◌≡◌, inl, ℕ, List, [], ◌∷◌, length, sym, ◌∙◌, ap, subst, arith}
use Rattle.ledger_disk.specs.Disk.{State, settled_state}
use Rattle.block_file.specs.File.{IsSettled, whole_file}
use Rattle.block_file.specs.Head.{HasHead, front_of}
use Rattle.twin_file.specs.Images.{IsQuiet}
use Rattle.twin_file.specs.Twin.{open_of, other_of, OpensTo, IsPassed}
use Rattle.twin_file.proofs.HeadLaws.{has_head}

-- a disk that is settled with some bytes
settled_is : (s : State) (bytes : List ℕ) → s ≡ settled_state bytes → IsSettled s
settled_is s bytes is = is ∙ ap (λ (t : State). settled_state t.seen) (sym is)

still_settled : (old new : State) → new ≡ old → IsSettled old → IsSettled new
still_settled old new same quiet = subst IsSettled (sym same) quiet

empty_passed : (in_a : Bool) (taken : ℕ) (s : State) → s ≡ settled_state [] → IsPassed in_a taken s.seen
empty_passed in_a taken s is = inl (inl (omega (arith, ap (λ (t : State). length t.seen) is)))

-- once the copy is open
pub quiet_new : (x : Bool) (a2 b2 a3 b3 : State) (copy new : List ℕ) → other_of x a3 b3 ≡ settled_state copy → open_of x a3 b3 ≡ open_of x a2 b2 → IsSettled (open_of x a2 b2) → OpensTo (not x) new a3.seen b3.seen → IsQuiet (not x) a3 b3
quiet_new true a2 b2 a3 b3 copy new now same quiet opens = record { quiet_a = still_settled a2 a3 same quiet; quiet_b = settled_is b3 copy now; taken = opens.taken }
quiet_new false a2 b2 a3 b3 copy new now same quiet opens = record { quiet_a = settled_is a3 copy now; quiet_b = still_settled b2 b3 same quiet; taken = opens.taken }

-- once the first file is made
pub quiet_made : (a b : State) (block : List ℕ) → a ≡ settled_state (whole_file (front_of 1 1 []) (block ∷ [])) → b ≡ settled_state [] → IsQuiet true a b
quiet_made a b block first second = record {
  quiet_a = settled_is a (whole_file (front_of 1 1 []) (block ∷ [])) first;
  quiet_b = settled_is b [] second;
  taken = record { head = subst (λ (s : State). HasHead s.seen) (sym first) (has_head 1 [] (block ∷ [])); other = empty_passed true _ b second };
}
