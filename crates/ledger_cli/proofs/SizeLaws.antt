-- Lemmas on the sizes that `board` tells, by the board that followed the run.
use Rattle.std.specs.Prelude.{All, IfOk}
use Rattle.std.proofs.Common.{◌≡◌, ◌⊎◌, ℕ, ◌+◌, ◌<◌, ◌≤◌, false, inl, inr, List, [], ◌∷◌, ◌++◌, length, map, Result, Ok, Option, Some, ap, sym, subst, ◌∙◌, arith, length-append}
use Rattle.std.proofs.lemmas.Bool.{cases_lt}
use Rattle.std.proofs.lemmas.List.Elements.{All-nil, All-cons, All-head, All-tail, All-weaker}
use mathlib.Core.List.{IsPrefix}
use Rattle.ledger_bytes.specs.declared.failure.NoMemory.{NoMemory}
use Rattle.ledger_model.specs.History.{History, point, size}
use Rattle.proof_board.specs.Growing.{IsListOf}
use Rattle.proof_board.specs.Hands.{EachGives}
use Rattle.proof_board.specs.History.{Digests, Mark, all_leaves}
use Rattle.proof_board.specs.Returning.{Returns, IsTallyOf}
use Rattle.proof_board.specs.Words.{seen_by, IsNew, IsPassOf}
use Rattle.proof_board.specs.declared.board.Board.{Board}
use Rattle.proof_board.specs.declared.hands.Returned.{Returned}
use Rattle.proof_board.specs.declared.hands.Tally.{Tally}
use Rattle.proof_board.specs.declared.pass.ProverPass.{ProverPass}
use Rattle.proof_board.specs.declared.view.Base.{Base}
use Rattle.proof_board.specs.declared.view.Growth.{Growth}
use Rattle.proof_board.proofs.Fronts.{leaves_begin, prefix_length, prefix_self, prefix_whole}
use Rattle.ledger_cli.specs.Boards.{Posted, Lasting, HasFollowed, IsBlockEnd, IsPosted, IsShownSize, TellsSizes, board_limit, lasting, list_size, published_size}
use Rattle.ledger_cli.proofs.FollowLaws.{end_le, posted_le, settled_end}

-- ---- a board that was just opened

-- a list on a base is as long as the base's leaves and those behind it
pub list_is : (base : Base) (log : List Digests) (ds : Digests) → IsListOf base (all_leaves log) ds → list_size base log ≡ length ds
list_is base log ds l = let a = ap length l.whole in let b = length-append l.front (all_leaves log) in let c = l.count in omega (arith, a, b, c)

-- it follows the history with which it began
pub begun : (h : History) (p : Posted) → h.waiting ≡ [] → 0 < size h → published_size p.growth ≡ size h → length p.growth.at.log ≡ 1 → p.waiting ≡ [] → IsPosted (size h) h p
begun h p none some all one waits = record {
  shown = λ log begins more.
      let whole : log ≡ p.growth.at.log = prefix_whole log p.growth.at.log begins (omega (arith, one, more)) in
      let n : list_size p.growth.base log ≡ size h = ap (list_size p.growth.base) whole ∙ all in
      record { ended = subst (IsBlockEnd h) (sym n) (settled_end h none some); few = inr n };
  some = omega (arith, one);
  none_waits = λ no. waits;
  most = λ no n e few. (let l = end_le h n e in omega (arith, l, all));
}

-- ---- what it shows at the end

-- a prover's size is that of a list that was published
abbrev pub IsSeenIn : Growth → Tally → Type 0
IsSeenIn now t = (log : List Digests) × IsPrefix log now.at.log × (0 < length log) × (t.size ≡ list_size now.base log)

module _ (h g : History) (old new : Posted) (begins : IsPosted (size h) h old) (floor : old.growth.base.floor ≡ point h) (same : lasting new ≡ lasting old) (x : HasFollowed (Some old) (Some new) h g) where
  floor_is : new.growth.base.floor ≡ point h
  floor_is = ap (λ (l : Lasting). l.base.floor) same ∙ floor

  followed : IsPosted (size h) g new
  followed = x.follows (size h) begins

  shown_size : (log : List Digests) → IsPrefix log new.growth.at.log → 0 < length log → IsShownSize (size h) (point h) g (list_size new.growth.base log)
  shown_size log b some = subst (λ (f : ℕ). IsShownSize (size h) f g (list_size new.growth.base log)) floor_is (followed.shown log b some)

  most_size : (n : ℕ) → IsBlockEnd g n → n ≤ point h + board_limit → n ≤ published_size new.growth
  most_size n e few = followed.most x.none_lacks n e (subst (λ (f : ℕ). n ≤ f + board_limit) (sym floor_is) few)

  whole_size : size g ≤ point h + board_limit → published_size new.growth ≡ size g
  whole_size few =
      let least = posted_le (size h) g new followed in
      elim (cases_lt 0 (size g)) [
        | inl some ↦ (let more = most_size (size g) (settled_end g x.none_waits some) few in omega (arith, least, more))
        | inr zero ↦ omega (arith, least, zero)
      ]

  seen_size : (t : Tally) → IsSeenIn new.growth t → IsShownSize (size h) (point h) g t.size
  seen_size t s = subst (IsShownSize (size h) (point h) g) (sym s.3) (shown_size s.0 s.1 s.2)

  seen_within : (t : Tally) → IsSeenIn new.growth t → t.size ≤ published_size new.growth
  seen_within t s = let l = prefix_length (all_leaves s.0) (all_leaves new.growth.at.log) (leaves_begin s.0 new.growth.at.log s.1) in let is = s.3 in omega (arith, l, is)

  pub tells_sizes : (tallies : List Tally) (published : ℕ) → published ≡ published_size new.growth → All (IsSeenIn new.growth) tallies → TellsSizes tallies published h g
  tells_sizes tallies published is seen = subst (λ (n : ℕ). TellsSizes tallies n h g) (sym is) (record {
    seen = All-weaker (IsSeenIn new.growth) (λ t. IsShownSize (size h) (point h) g t.size) seen_size tallies seen;
    last = shown_size new.growth.at.log (prefix_self new.growth.at.log) followed.some;
    within = All-weaker (IsSeenIn new.growth) (λ t. t.size ≤ published_size new.growth) seen_within tallies seen;
    most = most_size;
    whole = whole_size;
  })

-- ---- what provers saw

module _ (b : Board) (count : ℕ) (g now : Growth) (some : 0 < length g.at.log) (base : now.base ≡ g.base) where
  abbrev Begins : ProverPass → Type 0
  Begins p = IsPrefix (seen_by p).log now.at.log

  one_seen : (p : ProverPass) (r : Returned) (t : Tally) → IsNew g p → Returns b p count r → r.tally ≡ Ok t → Begins r.pass → IsSeenIn now t
  one_seen p r t new x is begins =
      let tally : IsTallyOf p r.pass count t = subst (λ (o : Result Tally NoMemory). IfOk o (IsTallyOf p r.pass count)) is x.tally in
      let more = prefix_length (seen_by p).log (seen_by r.pass).log x.goes.seen in
      let first = ap (λ (m : Mark). length m.log) new.0 in (
        (seen_by r.pass).log,
        begins,
        omega (arith, some, more, first),
        tally.size ∙ ap (λ (c : Base). list_size c (seen_by r.pass).log) (x.goes.base ∙ new.2 ∙ sym base),
      )

  pub all_seen : (ps : List ProverPass) (rs : List Returned) (ts : List Tally) → All (λ p. IsPassOf b p × IsNew g p) ps → EachGives (λ p r. Returns b p count r) ps rs
      → All Begins (map (λ (r : Returned). r.pass) rs) → map (λ (r : Returned). r.tally) rs ≡ map Ok ts → All (IsSeenIn now) ts
  unfolding EachGives
  all_seen [] [] [] a e s is = All-nil (IsSeenIn now)
  all_seen [] [] (t ∷ ts) a e s is = absurd (let no : ⊥ = cc is in no)
  all_seen [] (r ∷ rs) ts a e s is = absurd e
  all_seen (p ∷ ps) [] ts a e s is = absurd e
  all_seen (p ∷ ps) (r ∷ rs) [] a e s is = absurd (let no : ⊥ = cc is in no)
  all_seen (p ∷ ps) (r ∷ rs) (t ∷ ts) a e s is =
      let head : r.tally ≡ Ok t = cc is in
      let tail : map (λ (r : Returned). r.tally) rs ≡ map Ok ts = cc is in
      All-cons (IsSeenIn now) t ts
      (one_seen p r t (All-head (λ p. IsPassOf b p × IsNew g p) p ps a).1 e.0 head (All-head Begins r.pass (map (λ (x : Returned). x.pass) rs) s))
      (all_seen ps rs ts (All-tail (λ p. IsPassOf b p × IsNew g p) p ps a) e.1 (All-tail Begins r.pass (map (λ (x : Returned). x.pass) rs) s) tail)
