-- What a pass knows goes on.
use Rattle.std.specs.Prelude.{All}
use Rattle.std.proofs.lemmas.List.Elements.{All-append, All-drop}
use Rattle.std.proofs.Common.{◌<◌, List, ◌++◌, length, drop, sym, ap, ◌∙◌, subst, arith, append_assoc, drop_at}
use mathlib.Core.Path.{refl}
use mathlib.Core.List.{IsPrefix}
use Rattle.proof_board.specs.declared.pass.ProverPass.{ProverPass}
use Rattle.proof_board.specs.Words.{seen_by, base_in}
use Rattle.proof_board.specs.Returning.{GoesOn}
use Rattle.proof_board.specs.History.{Digests, IsWide, all_leaves}
use Rattle.proof_board.specs.Growing.{IsListOf}
use Rattle.proof_board.specs.declared.view.Base.{Base}
use Rattle.proof_board.proofs.Fronts.{prefix_self, prefix_trans, prefix_length, leaves_begin}

pub goes_self : (p : ProverPass) → GoesOn p p
goes_self p = record { base = refl; told = refl; seen = prefix_self (seen_by p).log }

pub goes_on : (p q r : ProverPass) → GoesOn p q → GoesOn q r → GoesOn p r
goes_on p q r first then = record { base = then.base ∙ first.base; told = then.told ∙ first.told; seen = prefix_trans (seen_by p).log (seen_by q).log (seen_by r).log first.seen then.seen }

-- a longer history has leaves, where one that begins it has
pub some_more : (old new : List Digests) → IsPrefix old new → 0 < length (all_leaves old) → 0 < length (all_leaves new)
some_more old new more some = omega (arith, prefix_length (all_leaves old) (all_leaves new) (leaves_begin old new more))

-- with a list that a history may be the end of there is one that a longer history may be the end of
pub later_list : (base : Base) (old new : List Digests) (ds : Digests) → IsPrefix old new → All IsWide (all_leaves new) → IsListOf base (all_leaves old) ds → (es : Digests) × IsListOf base (all_leaves new) es
later_list base old new ds more wide list =
    let front = all_leaves old in
    let next = leaves_begin old new more in
    let rest = next.0 in
    let back : All IsWide rest = subst (All IsWide) (ap (drop (length front)) (sym next.1) ∙ drop_at front rest (length front) refl) (All-drop IsWide (length front) (all_leaves new) wide) in (
      ds ++ rest,
      record {
        front = list.front;
        whole = ap (λ (l : Digests). l ++ rest) list.whole ∙ append_assoc list.front front rest ∙ ap (λ (l : Digests). list.front ++ l) next.1;
        count = list.count;
        peaks = list.peaks;
        wide = All-append IsWide ds rest list.wide back;
      },
    )

-- with a list that a pass stands for there is one that it stands for after two looks more, on the base before the last
pub goes_list : (p q r : ProverPass) (ds : Digests) → GoesOn p q → GoesOn q r → IsListOf (base_in p) (all_leaves (seen_by p).log) ds → (es : Digests) × IsListOf (base_in q) (all_leaves (seen_by r).log) es
goes_list p q r ds first then list =
    let later = later_list (base_in p) (seen_by p).log (seen_by r).log ds (goes_on p q r first then).seen r.wide list in
    (later.0, subst (λ (b : Base). IsListOf b (all_leaves (seen_by r).log) later.0) (sym first.base) later.1)
