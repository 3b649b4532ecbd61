-- What the tests of single journals say.
use Rattle.std.proofs.Common.{◌≡◌, inl, inr, ℕ, Bool, true, false, List, Option, Some, None, refl, sym}
use Rattle.std.specs.Prelude.{◌&&◌, ◌==◌, nat_lt, bytes_eq, is_none}
use Rattle.std.proofs.lemmas.Bool.{false≢true, eqb-true, ltb-true, lt-ltb, and_parts, eq-eqb}
use Rattle.std.proofs.lemmas.Slice.Eq.{bytes_eq-Decides}
use Rattle.journal_record.specs.Items.{Item}
use Rattle.journal_record.specs.declared.header.Header.{Header}
use Rattle.journal_record.specs.declared.header.Kind.{Kind}
use Rattle.journal_record.specs.declared.header.Kind.TheVariants as kind
use Rattle.member_book.specs.Erasures.{is_record}
use Rattle.pseudo_genesis.specs.declared.base.Base.{Base}
use Rattle.tree_model.specs.Tree.{Hash}
use Rattle.dump_model.specs.Checks.{hides_as, hides, is_purge, digest_of_base, makes_base}
use Rattle.dump_model.specs.Truth.{IsClueOccultOf, IsOccultOf, IsPurgeOf}

-- two tests that pass together have one answer
pub same_answer : (a b : Bool) → (a ≡ true → b ≡ true) → (b ≡ true → a ≡ true) → a ≡ b
same_answer true b there back = sym (there refl)
same_answer false true there back = back refl
same_answer false false there back = refl

pub none_is : {A : Type 0} (x : Option A) → is_none x ≡ true → x ≡ None
none_is None is = refl
none_is (Some x) is = absurd (false≢true is)

purge_is : (k : Kind) → is_purge k ≡ true → k ≡ kind.Purge
purge_is kind.Genesis is = absurd (false≢true is)
purge_is kind.Content is = absurd (false≢true is)
purge_is kind.Member is = absurd (false≢true is)
purge_is kind.Time is = absurd (false≢true is)
purge_is kind.Occult is = absurd (false≢true is)
purge_is kind.Purge is = refl
purge_is kind.ClueOccult is = absurd (false≢true is)

record_is : (k : Kind) → is_record k ≡ true → k ≡ kind.Content
record_is kind.Genesis is = absurd (false≢true is)
record_is kind.Content is = refl
record_is kind.Member is = absurd (false≢true is)
record_is kind.Time is = absurd (false≢true is)
record_is kind.Occult is = absurd (false≢true is)
record_is kind.Purge is = absurd (false≢true is)
record_is kind.ClueOccult is = absurd (false≢true is)

clue_hides : (x target : Header) → (is_record target.kind && (nat_lt target.jsn x.jsn && bytes_eq x.link.0 target.clue.0)) ≡ true → x.kind ≡ kind.ClueOccult → IsClueOccultOf target x
clue_hides x target is by_clue =
    let both = and_parts (is_record target.kind) (nat_lt target.jsn x.jsn && bytes_eq x.link.0 target.clue.0) is in
    let rest = and_parts (nat_lt target.jsn x.jsn) (bytes_eq x.link.0 target.clue.0) both.1 in
    record {
      kind_is = by_clue;
      target_is = record_is target.kind both.0;
      before = ltb-true target.jsn x.jsn rest.0;
      clue_is = (bytes_eq-Decides x.link.0 target.clue.0).0 rest.1;
    }

occult_of : (k : Kind) (x target : Header) → x.kind ≡ k → hides_as k x target ≡ true → IsOccultOf target x
occult_of kind.Genesis x target same is = absurd (false≢true is)
occult_of kind.Content x target same is = absurd (false≢true is)
occult_of kind.Member x target same is = absurd (false≢true is)
occult_of kind.Time x target same is = absurd (false≢true is)
occult_of kind.Occult x target same is = inl (same, eqb-true x.a target.jsn is)
occult_of kind.Purge x target same is = absurd (false≢true is)
occult_of kind.ClueOccult x target same is = inr (clue_hides x target is same)

pub hides_is : (target : Header) (item : Item) → hides target item ≡ true → IsOccultOf target item.header
hides_is target item is = occult_of item.header.kind item.header target refl is

pub is_hides : (target : Header) (item : Item) → IsOccultOf target item.header → hides target item ≡ true
is_hides target item (inl is) = rw is.0 (eq-eqb item.header.a target.jsn is.1)
is_hides target item (inr is) =
    rw (is.kind_is, is.target_is, lt-ltb target.jsn item.header.jsn is.before, (bytes_eq-Decides item.header.link.0 target.clue.0).1 is.clue_is) refl

pub makes_is : (hash : Hash) (base : Base) (item : Item) → makes_base hash base item ≡ true → IsPurgeOf hash base item.header
makes_is hash base item is =
    let digest : List ℕ = digest_of_base hash base in
    let both = and_parts (is_purge item.header.kind) ((item.header.a == base.point) && bytes_eq item.header.link.0 digest) is in
    let rest = and_parts (item.header.a == base.point) (bytes_eq item.header.link.0 digest) both.1 in
    (purge_is item.header.kind both.0, eqb-true item.header.a base.point rest.0, (bytes_eq-Decides item.header.link.0 digest).0 rest.1)

pub is_makes : (hash : Hash) (base : Base) (item : Item) → IsPurgeOf hash base item.header → makes_base hash base item ≡ true
is_makes hash base item is =
    rw (is.0, eq-eqb item.header.a base.point is.1, (bytes_eq-Decides item.header.link.0 (digest_of_base hash base)).1 is.2) refl
