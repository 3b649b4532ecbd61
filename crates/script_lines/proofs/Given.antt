-- Fields that have parts of their own: approvals and time marks.
use Rattle.std.proofs.Common.{◌≡◌, ℕ, ◌+◌, ◌<◌, ◌≤◌, ◌≢◌, ◌∙◌, List, [], ◌∷◌, ◌++◌, length, length-append, Option, Some, None, All, refl, append_assoc, arith}
use Rattle.std.proofs.lemmas.Bool.{cond-false, lt-leb}
use Rattle.std.proofs.lemmas.List.Elements.{All-push}
use Rattle.script_lines.specs.Parts.{parts, all_of, with_first}
use Rattle.script_lines.specs.Spellings.{approval_of, approval_from, approvals_from, mark_from}
use Rattle.script_lines.specs.declared.said.SaidApproval.{SaidApproval}
use Rattle.script_lines.proofs.Cuts.{parts-some}

-- two parts and more are no approval
approval_from-more : (member proof : List ℕ) (texts : List (List ℕ)) → 0 < length texts → approval_from (member ∷ proof ∷ texts) ≡ None
approval_from-more member proof [] some = absurd (omega arith)
approval_from-more member proof (more ∷ texts) some = refl

-- a text with two separators is no approval
pub approval_of-more : (text member rest proof more : List ℕ) → parts 58 text ≡ member ∷ parts 58 rest → parts 58 rest ≡ proof ∷ parts 58 more
    → approval_of text ≡ None
approval_of-more text member rest proof more first second =
    rw (first, second) (approval_from-more member proof (parts 58 more) (parts-some 58 more))

-- three parts and more are no time mark
mark_from-more : (jsn index time : List ℕ) (texts : List (List ℕ)) → 0 < length texts → mark_from (jsn ∷ index ∷ time ∷ texts) ≡ None
mark_from-more jsn index time [] some = absurd (omega arith)
mark_from-more jsn index time (more ∷ texts) some = refl

-- a text with three separators has no three parts
pub mark_from-parts : (text jsn rest index rest' time more : List ℕ) → parts 58 text ≡ jsn ∷ parts 58 rest → parts 58 rest ≡ index ∷ parts 58 rest'
    → parts 58 rest' ≡ time ∷ parts 58 more → mark_from (parts 58 text) ≡ None
mark_from-parts text jsn rest index rest' time more first second third =
    rw (first, second, third) (mark_from-more jsn index time (parts 58 more) (parts-some 58 more))

-- the values that were read, and those of the rest behind them
abbrev pub joined_to : {A : Type 0} → List A → Option (List A) → Option (List A)
joined_to given None = None
joined_to given (Some more) = Some (given ++ more)

-- nothing goes behind a part that reads as nothing
pub joined_to-none : {A : Type 0} (read : List ℕ → Option A) (given : List A) (text : List ℕ) (texts : List (List ℕ)) → read text ≡ None
    → joined_to given (all_of read (text ∷ texts)) ≡ None
joined_to-none read given text texts is = rw is refl

-- one value more was read
joined_to-first : {A : Type 0} (given : List A) (x : A) (more : Option (List A)) → joined_to given (with_first (Some x) more) ≡ joined_to (given ++ x ∷ []) more
joined_to-first given x None = refl
joined_to-first given x (Some xs) = rw append_assoc refl

pub joined_to-some : {A : Type 0} (read : List ℕ → Option A) (given : List A) (x : A) (text : List ℕ) (texts : List (List ℕ)) → read text ≡ Some x
    → joined_to given (all_of read (text ∷ texts)) ≡ joined_to (given ++ x ∷ []) (all_of read texts)
joined_to-some read given x text texts is = rw is (joined_to-first given x (all_of read texts))

-- the approvals of a text were read up to these texts
pub record AreRead (text : List ℕ) (given : List SaidApproval) (left : List (List ℕ)) : Type 0 where
  pub read : all_of approval_of (parts 44 text) ≡ joined_to given (all_of approval_of left)
  pub count : length (parts 44 text) ≡ length given + length left
  pub few : length given ≤ 256
  pub long : All (λ approval. length approval.proof ≤ 4096) given

-- one approval more was read
pub AreRead-more : (text : List ℕ) (given : List SaidApproval) (approval : SaidApproval) (item : List ℕ) (left : List (List ℕ)) → AreRead text given (item ∷ left)
    → approval_of item ≡ Some approval → length approval.proof ≤ 4096 → length given ≢ 256 → AreRead text (given ++ approval ∷ []) left
AreRead-more text given approval item left so_far is long few = record {
  read = so_far.read ∙ joined_to-some approval_of given approval item left is;
  count = omega (arith, so_far.count, length-append given (approval ∷ []));
  few = omega (arith, so_far.few, length-append given (approval ∷ []));
  long = All-push (λ a. length a.proof ≤ 4096) given approval so_far.long long;
}

-- more than 256 parts are no approvals
pub approvals_from-many : (text : List ℕ) (given : List SaidApproval) (left : List (List ℕ)) → AreRead text given left → length given ≡ 256 → 0 < length left
    → approvals_from (parts 44 text) ≡ None
approvals_from-many text given left so_far full more =
    cond-false _ _ _ (lt-leb (length (parts 44 text)) 256 (omega (arith, so_far.count)))
