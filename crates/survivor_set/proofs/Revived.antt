-- What is proved of a survivor.
use Rattle.std.specs.Prelude.{IfErr, IsErr, IsErrAnd, slice_get, option_map, Result, Ok, Err}
use Rattle.std.specs.List.{concat}
use Rattle.std.proofs.Common.{◌≡◌, ℕ, ◌*◌, ◌<◌, ◌^◌, Bool, List, [], length, get_or, take, Option, Some, None, sym, ap, ◌∙◌, subst, arith, inl}
use Rattle.std.proofs.lemmas.List.{take_all}
use Rattle.std.proofs.lemmas.Option.{get_or_from_slice_get, slice_get_within, slice_get-map, same_Some}
use Rattle.sha2.specs.Sha256.{sha256}
use Rattle.tree_model.specs.Path.{path, path_length}
use Rattle.tree_model.specs.Tree.{leaf, cut}
use Rattle.tree_model.proofs.Paths.{path_length_below}
use Rattle.merkle_batch.specs.Rows.{Levels, StandsFor}
use Rattle.ledger_bytes.specs.Digests.{digest}
use Rattle.ledger_bytes.specs.declared.digest.Digest.{Digest}
use Rattle.journal_record.specs.Header.{spelling}
use Rattle.journal_record.specs.declared.header.Header.{Header}
use Rattle.ledger_model.specs.Bounds.{has_bound}
use Rattle.ledger_model.specs.History.{History, journals, size, leaf_digest}
use Rattle.ledger_book.specs.Books.{leaf_digests}
use Rattle.proof_maker.specs.Parts.{AreDigests, LeadsUp}
use Rattle.proof_maker.specs.declared.made.Made.{Made}
use Rattle.survivor_set.specs.Sets.{Saved, SavedSet}
use Rattle.survivor_set.specs.Outcomes.{Tells, IsSurvivorOf, IsOwn, Revives, RevivesNot, set_refusal, survivors_refusal}
use Rattle.survivor_set.specs.declared.failure.SetErr.{SetErr}
use Rattle.survivor_set.specs.declared.failure.SetErr.TheVariants.{Refused, Bad, NotBelow, OtherLedger, LeafPath, DiskFault, NoMemory}
use Rattle.survivor_set.proofs.Growth.{IsRefusing, Refuses, survivors_refuse, set_refuses, has_path}

pub few_digests : (row : List ℕ) (n size : ℕ) → size < 2 ^ 32 → length row ≡ 32 * path_length n size → AreDigests 32 row
few_digests row n size fits len = record { whole = omega (arith, len); few = omega (arith, len, path_length_below 32 n size (omega (arith, fits))) }

-- the journal of a survivor is there
pub there_in : (h : History) (p : ℕ) (x : Saved) → IsSurvivorOf h p x → x.item.header.jsn < size h
there_in h p x is = slice_get_within (journals h) x.item.header.jsn is.e is.there

-- its leaf and its path lead to the root over all journals
pub leads_up : (h : History) (t : Levels) (x : Saved) (header : Header) (d : Digest) (bytes row below : List ℕ) (n all p : ℕ) → StandsFor sha256 t (leaf_digests h) → IsSurvivorOf h p x → header ≡ x.item.header → d.0 ≡ leaf sha256 bytes → bytes ≡ spelling header
    → n ≡ x.item.header.jsn → below ≡ x.path → all ≡ t.size → ((ds : List (List ℕ)) → StandsFor sha256 t ds → cut 32 below ≡ path sha256 n (take p ds) → row ≡ concat (path sha256 n (take all ds))) → LeadsUp h n d row
unfolding StandsFor
leads_up h t x header d bytes row below n all p stands is header_is d_is bytes_are n_is below_is all_is carried =
    let leaves = leaf_digests h in
    let found : slice_get leaves n ≡ Some (leaf_digest is.e) = slice_get-map leaf_digest (journals h) n ∙ ap (λ k. option_map leaf_digest (slice_get (journals h) k)) n_is ∙ ap (option_map leaf_digest) is.there in
    let at : get_or leaves n [] ≡ leaf_digest is.e = get_or_from_slice_get leaves n (leaf_digest is.e) [] found in
    let own : d.0 ≡ leaf_digest is.e = d_is ∙ ap (leaf sha256) bytes_are ∙ ap (λ (a : Header). leaf sha256 (spelling a)) (header_is ∙ is.header_is) in
    let has : cut 32 below ≡ path sha256 n (take p leaves) = ap (cut 32) below_is ∙ has_path h p x is ∙ ap (λ k. path sha256 k (take p leaves)) (sym n_is) in
    let whole : take all leaves ≡ leaves = take_all all leaves (omega (arith, stands.0, all_is)) in
    record { leaf_is = ap digest (own ∙ sym at); path_is = carried leaves stands has ∙ ap (λ ds. concat (path sha256 n ds)) whole }

-- ---- refusals

own_of : (e : SetErr) → IsRefusing e → IsOwn e
own_of (Refused why) is = is
own_of (Bad bad) is = tt
own_of (NotBelow p) is = tt
own_of (OtherLedger kept) is = tt
own_of LeafPath is = tt
own_of DiskFault is = is
own_of NoMemory is = tt

pub survivors_own : {A : Type 0} (s : SavedSet) (r : Result A SetErr) → Tells r (survivors_refusal s s.survivors) → IfErr r IsOwn
survivors_own s (Ok x) is = tt
survivors_own s (Err e) is = own_of e (survivors_refuse s s.survivors e is)

revives_not : (why : Option SetErr) (bound : Bool) → Refuses why → (e : SetErr) → why ≡ Some e → RevivesNot why bound e
revives_not why bound refuses (Refused x) is = inl is
revives_not why bound refuses (Bad x) is = refuses (Bad x) is
revives_not why bound refuses (NotBelow p) is = is
revives_not why bound refuses (OtherLedger kept) is = is
revives_not why bound refuses LeafPath is = is
revives_not why bound refuses DiskFault is = refuses DiskFault is
revives_not why bound refuses NoMemory is = absurd (refuses NoMemory is)

pub revives_err : (h : History) (es : List (List ℕ)) (s : SavedSet) (x : Saved) (r : Result Made SetErr) (e : SetErr) → IsErr r × IsErrAnd r (λ f. f ≡ e) → set_refusal h s ≡ Some e → Revives h es (set_refusal h s) s.point x r
revives_err h es s x (Ok made) e is why = absurd (cc is.0)
revives_err h es s x (Err f) e is why = revives_not (set_refusal h s) (has_bound h x.item.header.jsn) (set_refuses h s) f (why ∙ ap Some (sym is.1))

-- where nothing refuses the set
pub revives_from : (h : History) (es : List (List ℕ)) (s : SavedSet) (x : Saved) (r : Result Made SetErr) → set_refusal h s ≡ None → Revives h es None s.point x r → Revives h es (set_refusal h s) s.point x r
revives_from h es s x r none is = subst (λ (w : Option SetErr). Revives h es w s.point x r) (sym none) is

-- it's the survivor that is asked for
pub asked_for : (xs : List Saved) (i : ℕ) (x y : Saved) → slice_get xs i ≡ Some y → slice_get xs i ≡ Some x → y ≡ x
asked_for xs i x y one two = same_Some y x (sym one ∙ two)
