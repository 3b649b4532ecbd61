-- What hides a content, as a history grows.
use Rattle.std.specs.List.{list_any}
use Rattle.std.specs.Option.{is_some}
use Rattle.std.specs.Prelude.{slice_get}
use Rattle.std.proofs.Common.{◌≡◌, ℕ, zero, suc, ◌+◌, ◌-◌, ◌≤◌, Bool, true, false, ◌||◌, List, [], ◌∷◌, ◌++◌, length, take, drop, Option, None, Some, refl, sym, ◌∙◌, ap, subst, arith, append-nil, length-append, take-append-drop}
use Rattle.std.proofs.lemmas.List.Concat.{flat_map-append}
use Rattle.std.proofs.lemmas.List.Folds.{list_any-append}
use Rattle.journal_record.specs.Entry.{Entry}
use Rattle.ledger_model.proofs.HideLaws.{named_is, none_named, hides_behind}
use Rattle.ledger_model.proofs.LawfulLaws as lawful
use Rattle.ledger_model.specs.History.{History, history, journals_of, journals, size}
use Rattle.ledger_model.specs.Targets.{hides, is_hidden_by, is_hidden}
use Rattle.journal_record.specs.Blocks.{AreFrom, AreBlocks}
use Rattle.ledger_open.specs.Standing.{hidden_before}

pub from_more : (m : ℕ) (es fs : List Entry) → AreFrom m es → AreFrom (m + length es) fs → AreFrom m (es ++ fs)
from_more m [] fs a b = subst (λ (n : ℕ). AreFrom n fs) (omega arith) b
from_more m (e ∷ es) fs a b = (a.0, from_more (m + 1) es fs a.1 (subst (λ (n : ℕ). AreFrom n fs) (omega arith) b))

pub from_blocks : (m : ℕ) (bs : List (List Entry)) → AreBlocks m bs → AreFrom m (journals_of bs)
from_blocks m [] a = tt
from_blocks m (b ∷ bs) a = from_more m b (journals_of bs) a.0.entries (from_blocks (m + length b) bs a.1)

-- journals in front of one don't hide it
pub none_hides : (target : Entry) (m : ℕ) (es : List Entry) → lawful.AreFrom m es → m + length es ≤ target.header.jsn → list_any (hides target) es ≡ false
none_hides target m es from few =
    named_is (hides target) es ∙ ap is_some (none_named (hides target) m target.header.jsn es (hides_behind target) from (omega (arith, few)))

-- journals that hide none from this number on hide as much among more journals as among those below it
module _ (hiders : List Entry) (low : ℕ) (none : (t : Entry) → low ≤ t.header.jsn → list_any (hides t) hiders ≡ false) where
  none_behind : (m n : ℕ) (fs : List Entry) → low ≤ m → AreFrom m fs → is_hidden_by hiders (slice_get fs n) ≡ false
  none_behind m n [] le a = refl
  none_behind m zero (f ∷ fs) le a = none f (omega (arith, le, a.0.jsn))
  none_behind m (suc n) (f ∷ fs) le a = none_behind (m + 1) n fs (omega (arith, le)) a.1

  pub hidden_among : (n : ℕ) (es fs : List Entry) → AreFrom low fs → is_hidden_by hiders (slice_get (es ++ fs) n) ≡ is_hidden_by hiders (slice_get es n)
  hidden_among n [] fs a = none_behind low n fs (omega arith) a
  hidden_among zero (e ∷ es) fs a = refl
  hidden_among (suc n) (e ∷ es) fs a = hidden_among n es fs a

-- a history whose blocks have all ended
pub journals_closed : (h : History) → h.waiting ≡ [] → journals h ≡ journals_of h.closed
journals_closed h none = ap (λ (l : List Entry). journals_of h.closed ++ l) none ∙ append-nil (journals_of h.closed)

pub journals_push : (bs : List (List Entry)) (b : List Entry) → journals (history (bs ++ b ∷ []) []) ≡ journals_of bs ++ b
journals_push bs b = append-nil (journals_of (bs ++ b ∷ [])) ∙ flat_map-append (λ (x : List Entry). x) bs (b ∷ []) ∙ ap (λ (l : List Entry). journals_of bs ++ l) (append-nil b)

-- by more journals
hidden_more : (target : Option Entry) (xs ys : List Entry) → is_hidden_by (xs ++ ys) target ≡ (is_hidden_by xs target || is_hidden_by ys target)
hidden_more None xs ys = refl
hidden_more (Some t) xs ys = list_any-append (hides t) xs ys

-- a block more
pub hidden_push : (bs : List (List Entry)) (b : List Entry) (n : ℕ) → is_hidden (history (bs ++ b ∷ []) []) n ≡ (is_hidden_by (journals_of bs) (slice_get (journals_of bs ++ b) n) || is_hidden_by b (slice_get (journals_of bs ++ b) n))
hidden_push bs b n = ap (λ (l : List Entry). is_hidden_by l (slice_get l n)) (journals_push bs b) ∙ hidden_more (slice_get (journals_of bs ++ b) n) (journals_of bs) b

pub take_over : (xs ys : List Entry) (k : ℕ) → take (length xs + k) (xs ++ ys) ≡ xs ++ take k ys
take_over [] ys k = let e : 0 + k ≡ k = omega arith in ap (λ (n : ℕ). take n ys) e
take_over (x ∷ xs) ys k = let e : length (x ∷ xs) + k ≡ suc (length xs + k) = omega arith in ap (λ (n : ℕ). take n (x ∷ (xs ++ ys))) e ∙ ap (λ (l : List Entry). x ∷ l) (take_over xs ys k)

pub before_push : (bs : List (List Entry)) (b : List Entry) (n : ℕ) → 1 ≤ length b → hidden_before (history (bs ++ b ∷ []) []) n ≡ (is_hidden_by (journals_of bs) (slice_get (journals_of bs ++ b) n) || is_hidden_by (take (length b - 1) b) (slice_get (journals_of bs ++ b) n))
before_push bs b n some =
    let target = slice_get (journals_of bs ++ b) n in
    ap (λ (l : List Entry). is_hidden_by (take (length l - 1) l) (slice_get l n)) (journals_push bs b)
    ∙ ap (λ (k : ℕ). is_hidden_by (take k (journals_of bs ++ b)) target) less
    ∙ ap (λ (l : List Entry). is_hidden_by l target) (take_over (journals_of bs) b (length b - 1))
    ∙ hidden_more target (journals_of bs) (take (length b - 1) b) where
      less : length (journals_of bs ++ b) - 1 ≡ length (journals_of bs) + (length b - 1)
      less = omega (arith, some, length-append (journals_of bs) b)

-- what a journal before the last hides is hidden
pub any_take : (p : Entry → Bool) (k : ℕ) (es : List Entry) → list_any p (take k es) ≡ true → list_any p es ≡ true
any_take p k es t = by_parts (list_any p (drop k es)) (list_any p (take k es)) t (ap (list_any p) (sym (parted k es)) ∙ list_any-append p (take k es) (drop k es)) where
  parted : (k : ℕ) (es : List Entry) → take k es ++ drop k es ≡ es
  parted k es = take-append-drop k es

  by_parts : (v w : Bool) → w ≡ true → list_any p es ≡ (w || v) → list_any p es ≡ true
  by_parts v w t is = is ∙ ap (λ (x : Bool). x || v) t

pub before_hidden : (h : History) (n : ℕ) → hidden_before h n ≡ true → is_hidden h n ≡ true
before_hidden h n t = of_target (slice_get (journals h) n) t where
  of_target : (target : Option Entry) → is_hidden_by (take (size h - 1) (journals h)) target ≡ true → is_hidden_by (journals h) target ≡ true
  of_target None t = t
  of_target (Some e) t = any_take (hides e) (size h - 1) (journals h) t
