-- What the parts of a proof show.
use Rattle.std.proofs.Common.{◌≡◌, ℕ, ◌+◌, ◌<◌, ◌≤◌, ◌^◌, ◌||◌, Bool, true, false, cond, List, [], length, map, get_or, Option, Some, None, refl, sym, ap, ap₂, ◌∙◌, subst, arith}
use Rattle.std.specs.Prelude.{IfSome, IfErr, IsErr, IsErrAnd, Result, Ok, Err}
use Rattle.std.specs.Option.{is_some, option_map}
use Rattle.ledger_bytes.specs.Digests.{digest}
use Rattle.ledger_bytes.specs.declared.digest.Digest.{Digest}
use Rattle.journal_record.specs.Entry.{Entry}
use Rattle.journal_record.specs.declared.header.Header.{Header}
use Rattle.proof_codec.specs.Claims.{mark_of}
use Rattle.proof_codec.specs.Proofs.{ShownLower, ShownUpper, Shown, HasLower, HasUpper, HasFields, IsDigests, IsSizeIf, IsPathIf, IsProof, is_bounded, lower_len, upper_len}
use Rattle.proof_codec.proofs.Breaks.{length-proof}
use Rattle.ledger_model.specs.Bounds.{has_bound, lower_journal, upper_journal}
use Rattle.ledger_model.specs.History as model
use Rattle.ledger_model.specs.History.{History, journals, leaf_digest}
use Rattle.ledger_model.specs.Proofs.{shown_of, lower_shown, upper_shown, path_in, bound_path, entry_path}
use Rattle.proof_maker.specs.Making.{IsMade}
use Rattle.proof_maker.specs.declared.made.Made.{Made}
use Rattle.proof_maker.specs.declared.made.MakeErr.{MakeErr}
use Rattle.proof_maker.specs.Parts.{AreBounded, AreDigests, IsNotaryErr, IsShortBound, BoundsIf, ArePartsOf, AreShort, IsNotedOf, IsShortNoted, lower_by, upper_by, path_if, index_of, index_path, shown_by}
use Rattle.proof_maker.specs.declared.bound.Bound.{Bound}
use Rattle.proof_maker.specs.declared.noted.Noted.{Noted}
use Rattle.proof_maker.specs.declared.parts.Parts.{Parts}

-- ---- it has a spelling

pub are_counted : (most : ℕ) (row : List ℕ) → most < 256 → AreDigests most row → IsDigests row
are_counted most row small short = record { whole = short.whole; count = omega (arith, short.few, small) }

has_upper : (bound : Bound) → IsShortBound bound → HasUpper (upper_by bound)
has_upper bound short = record {
  mark = record { jsn = short.header.widths.jsn; index = short.header.widths.a; time = short.header.widths.b };
  salt = short.header.widths.link;
  root = short.root;
  ext = are_counted 33 bound.ext (omega arith) short.ext;
}

has_lower : (path : List ℕ) (bound : Bound) → AreDigests 32 path → IsShortBound bound → HasLower (lower_by path bound)
has_lower path bound few short = record {
  header = short.header;
  path = are_counted 32 path (omega arith) few;
  root = short.root;
  ext = are_counted 33 bound.ext (omega arith) short.ext;
}

lower_fields : (path : List ℕ) (bound : Option Bound) → AreDigests 32 path → IfSome bound IsShortBound → IfSome (option_map (lower_by path) bound) HasLower
lower_fields path None few short = tt
lower_fields path (Some bound) few short = has_lower path bound few short

upper_fields : (bound : Option Bound) → IfSome bound IsShortBound → IfSome (option_map upper_by bound) HasUpper
upper_fields None short = tt
upper_fields (Some bound) short = has_upper bound short

size_field : (path : List ℕ) (lo hi : Option Bound) (size all : ℕ) → size < 2 ^ 64 → size ≡ cond (is_some (index_of lo) || is_some (index_of hi)) all 0 → IsSizeIf (is_bounded (option_map (lower_by path) lo) (option_map upper_by hi)) size
size_field path None None size all fits is = is
size_field path None (Some hi) size all fits is = fits
size_field path (Some lo) hi size all fits is = fits

path_field : {A : Type 0} (f : Bound → A) (es : List (List ℕ)) (bound : Option Bound) (row : List ℕ) → AreDigests 24 row → row ≡ index_path es (index_of bound) → IsPathIf (is_some (option_map f bound)) row
path_field f es None row few is = is
path_field f es (Some bound) row few is = are_counted 24 row (omega arith) few

lower_short : (path : List ℕ) (bound : Option Bound) → AreDigests 32 path → IfSome bound IsShortBound → lower_len (option_map (lower_by path) bound) ≤ 209 + 1024 + 1056
lower_short path None few short = omega arith
lower_short path (Some bound) few short = omega (arith, few.few, short.ext.few)

upper_short : (bound : Option Bound) → IfSome bound IsShortBound → upper_len (option_map upper_by bound) ≤ 90 + 1056
upper_short None short = omega arith
upper_short (Some bound) short = omega (arith, short.ext.few)

least : (b : Bool) (n k : ℕ) → n ≤ k → cond b n 0 ≤ k
least true n k le = le
least false n k le = omega arith

module _ (size n : ℕ) (parts : Parts) (noted : Noted) (es : List (List ℕ)) (size_fits : size < 2 ^ 64) (n_fits : n < 2 ^ 64) (short : AreShort parts) (few : IsShortNoted noted) (noted_is : IsNotedOf es (index_of parts.lower) (index_of parts.upper) noted) where
  fields_of : HasFields (shown_by size n parts noted)
  fields_of = record {
    size = size_fits;
    n = n_fits;
    leaf = short.leaf;
    path = are_counted 32 parts.path (omega arith) short.path;
    lower = lower_fields parts.lower_path parts.lower short.lower_path short.lower;
    upper = upper_fields parts.upper short.upper;
    notary_size = size_field parts.lower_path parts.lower parts.upper noted.size (length es) few.size noted_is.size_is;
    lo_path = path_field (lower_by parts.lower_path) es parts.lower noted.lower_path few.lower noted_is.lower_is;
    hi_path = path_field upper_by es parts.upper noted.upper_path few.upper noted_is.upper_is;
  }

  pub has_spelling : IsProof (shown_by size n parts noted)
  has_spelling =
      let p = shown_by size n parts noted in record {
        fields = fields_of;
        room =
            omega (
              arith,
              length-proof p fields_of,
              short.path.few,
              lower_short parts.lower_path parts.lower short.lower_path short.lower,
              upper_short parts.upper short.upper,
              least (is_bounded p.lo p.hi) 8 8 (omega arith),
              least (is_some p.lo) (1 + length p.lo_path) 769 (omega (arith, few.lower.few)),
              least (is_some p.hi) (1 + length p.hi_path) 769 (omega (arith, few.upper.few)),
            );
      }

-- ---- it is what a proof of the journal shows

lower_same : (h : History) (path : List ℕ) (journal : Option Entry) (bound : Option Bound) → BoundsIf h journal bound → path ≡ path_if (map leaf_digest (journals h)) (option_map (λ (e : Entry). mark_of e.header) journal)
    → option_map (lower_by path) bound ≡ option_map (lower_shown h) journal
lower_same h path None None is path_is = refl
lower_same h path None (Some bound) is path_is = absurd is
lower_same h path (Some e) None is path_is = absurd is
lower_same h path (Some e) (Some bound) is path_is =
    ap (λ (l : List ℕ). Some (lower_by l bound)) path_is ∙ ap (λ (x : Header). Some (record { header = x; path = path_in h e.header.jsn; root = bound.root; ext = bound.ext })) is.header_is
    ∙ ap (λ (x : Digest). Some (record { header = e.header; path = path_in h e.header.jsn; root = x; ext = bound.ext })) is.root_is
    ∙ ap (λ (x : List ℕ). Some (record { header = e.header; path = path_in h e.header.jsn; root = digest (model.root h e.header.jsn); ext = x })) is.ext_is

upper_same : (h : History) (journal : Option Entry) (bound : Option Bound) → BoundsIf h journal bound → option_map upper_by bound ≡ option_map (upper_shown h) journal
upper_same h None None is = refl
upper_same h None (Some bound) is = absurd is
upper_same h (Some e) None is = absurd is
upper_same h (Some e) (Some bound) is =
    ap (λ (x : Header). Some (record { mark = mark_of x; salt = x.link; root = bound.root; ext = bound.ext })) is.header_is
    ∙ ap (λ (x : Digest). Some (record { mark = mark_of e.header; salt = e.header.link; root = x; ext = bound.ext })) is.root_is
    ∙ ap (λ (x : List ℕ). Some (record { mark = mark_of e.header; salt = e.header.link; root = digest (model.root h e.header.jsn); ext = x })) is.ext_is

there_same : (h : History) (journal : Option Entry) (bound : Option Bound) → BoundsIf h journal bound → is_some (index_of bound) ≡ is_some journal
there_same h None None is = refl
there_same h None (Some bound) is = absurd is
there_same h (Some e) None is = absurd is
there_same h (Some e) (Some bound) is = refl

entry_same : (h : History) (es : List (List ℕ)) (journal : Option Entry) (bound : Option Bound) → BoundsIf h journal bound → index_path es (index_of bound) ≡ bound_path es journal
entry_same h es None None is = refl
entry_same h es None (Some bound) is = absurd is
entry_same h es (Some e) None is = absurd is
entry_same h es (Some e) (Some bound) is = ap (λ (x : Header). entry_path es x.a) is.header_is

-- what is shown, by its fields
abbrev with_fields : ℕ → ℕ → Digest → List ℕ → Option ShownLower → Option ShownUpper → ℕ → List ℕ → List ℕ → Shown
with_fields n size leaf path lo hi notary_size lo_path hi_path =
    record { size = size; n = n; leaf = leaf; path = path; lo = lo; hi = hi; notary_size = notary_size; lo_path = lo_path; hi_path = hi_path }

module _ (h : History) (es : List (List ℕ)) (size n : ℕ) (parts : Parts) (noted : Noted) (all : size ≡ model.size h) (is : ArePartsOf h n parts) (noted_is : IsNotedOf es (index_of parts.lower) (index_of parts.upper) noted) where
  -- is there a bound?
  asked_same : (is_some (index_of parts.lower) || is_some (index_of parts.upper)) ≡ (is_some (lower_journal h n) || is_some (upper_journal h n))
  asked_same = ap (λ b. b || is_some (index_of parts.upper)) (there_same h (lower_journal h n) parts.lower is.lower_is) ∙ ap (λ b. is_some (lower_journal h n) || b) (there_same h (upper_journal h n) parts.upper is.upper_is)

  pub shown_same : shown_by size n parts noted ≡ shown_of h es n
  unfolding shown_of
  shown_same =
      let lo : Option Entry = lower_journal h n in
      let hi : Option Entry = upper_journal h n in
      let leaf = digest (get_or (map leaf_digest (journals h)) n []) in
      let path = path_in h n in
      let low = option_map (lower_shown h) lo in
      let high = option_map (upper_shown h) hi in
      let count = cond (is_some lo || is_some hi) (length es) 0 in
      let low_by = option_map (lower_by parts.lower_path) parts.lower in
      let high_by = option_map upper_by parts.upper in
      ap (λ x. with_fields n x parts.leaf parts.path low_by high_by noted.size noted.lower_path noted.upper_path) all
      ∙ ap (λ (x : Digest). with_fields n (model.size h) x parts.path low_by high_by noted.size noted.lower_path noted.upper_path) is.leaf_is
      ∙ ap (λ (x : List ℕ). with_fields n (model.size h) leaf x low_by high_by noted.size noted.lower_path noted.upper_path) is.path_is
      ∙ ap (λ (x : Option ShownLower). with_fields n (model.size h) leaf path x high_by noted.size noted.lower_path noted.upper_path) (lower_same h parts.lower_path lo parts.lower is.lower_is is.lower_path_is)
      ∙ ap (λ (x : Option ShownUpper). with_fields n (model.size h) leaf path low x noted.size noted.lower_path noted.upper_path) (upper_same h hi parts.upper is.upper_is)
      ∙ ap (λ x. with_fields n (model.size h) leaf path low high x noted.lower_path noted.upper_path) (noted_is.size_is ∙ ap (λ b. cond b (length es) 0) asked_same)
      ∙ ap (λ (x : List ℕ). with_fields n (model.size h) leaf path low high count x noted.upper_path) (noted_is.lower_is ∙ entry_same h es lo parts.lower is.lower_is)
      ∙ ap (λ (x : List ℕ). with_fields n (model.size h) leaf path low high count (bound_path es lo) x) (noted_is.upper_is ∙ entry_same h es hi parts.upper is.upper_is)

  pub shown_made : (made : Made) → IsMade (shown_by size n parts noted) made → IsMade (shown_of h es n) made
  shown_made made = subst (λ (shown : Shown). IsMade shown made) shown_same

-- a bound of the parts is there exactly where the journal has one
pub asked_of : (h : History) (n : ℕ) (parts : Parts) (lower upper : Option ℕ) → AreBounded h n parts → lower ≡ index_of parts.lower → upper ≡ index_of parts.upper → (is_some lower || is_some upper) ≡ has_bound h n
asked_of h n parts lower upper is low high =
    ap₂ (λ (l u : Option ℕ). is_some l || is_some u) low high
    ∙ ap₂ (λ a b. a || b) (there_same h (lower_journal h n) parts.lower is.0) (there_same h (upper_journal h n) parts.upper is.1)

-- why the notary showed nothing, where it was asked
pub notary_err : {A : Type 0} (asked bound : Bool) (r : Result A MakeErr) (e : MakeErr) → asked ≡ bound → IsErr r × IsErrAnd r (λ f. f ≡ e) → IsNotaryErr asked e → IfErr r (IsNotaryErr bound)
notary_err asked bound (Ok x) e same is why = tt
notary_err asked bound (Err f) e same is why = subst (λ b. IsNotaryErr b f) same (subst (IsNotaryErr asked) (sym is.1) why)

-- what is noted of the indexes that were asked for
pub noted_of : (es : List (List ℕ)) (parts : Parts) (lower upper : Option ℕ) (noted : Noted) → lower ≡ index_of parts.lower → upper ≡ index_of parts.upper → IsNotedOf es lower upper noted
    → IsNotedOf es (index_of parts.lower) (index_of parts.upper) noted
noted_of es parts lower upper noted low high is = subst (λ (l : Option ℕ). IsNotedOf es l (index_of parts.upper) noted) low (subst (λ (u : Option ℕ). IsNotedOf es lower u noted) high is)
