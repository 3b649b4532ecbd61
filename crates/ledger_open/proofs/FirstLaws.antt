-- The first block of a file.
use Rattle.std.specs.Prelude.{Bool, true, false, IsTrue, IfSome, Option, Ok, Some, None, All}
use Rattle.std.specs.List.{list_all}
use Rattle.std.proofs.Common.{◌≡◌, ◌≢◌, ◌&&◌, inl, inr, ℕ, ◌+◌, ◌<◌, ◌≤◌, List, [], ◌∷◌, length, get_or, map, take, drop, refl, sym, ◌∙◌, ap, subst, arith, length-append}
use Rattle.std.proofs.lemmas.Bool.{eqb-true, true≢false, ltb-true}
use Rattle.std.proofs.lemmas.List.Elements.{All-nil, All-cons}
use Rattle.sha2.specs.Sha256.{sha256}
use Rattle.tree_model.specs.Tree.{mth, leaf, root, root_at}
use Rattle.block_file.specs.Blocks.{AreBlock, IsRead, IsOpenBlock, IsNextBlock, IsBlockErr, record_at, records_from}
use Rattle.block_file.specs.declared.failure.Damage.{Damage}
use Rattle.block_file.specs.declared.failure.Damage.TheVariants as damages
use Rattle.block_file.specs.declared.failure.FileErr.{FileErr}
use Rattle.block_file.specs.declared.failure.FileErr.TheVariants as files
use Rattle.block_file.specs.declared.block.BlockAt.{BlockAt}
use Rattle.block_file.specs.declared.block.RecordAt.{RecordAt}
use Rattle.journal_record.specs.Blocks.{record_bytes, leaves_of}
use Rattle.journal_record.specs.Entry.{Entry, content_digest_of}
use Rattle.journal_record.specs.Header.{spelling}
use Rattle.journal_record.specs.Records.{IsReadable, AreReadable}
use Rattle.journal_record.specs.Rules.{IsHeader, jsn_ok, content_len_ok}
use Rattle.journal_record.specs.declared.header.Header.{Header}
use Rattle.journal_record.specs.declared.header.Kind.{Kind}
use Rattle.journal_record.specs.declared.header.Kind.TheVariants as kind
use Rattle.ledger_model.specs.Behind.{next_number, IsOwnBehind, AreBehind}
use Rattle.ledger_book.specs.Books.{Kept, Serves}
use Rattle.ledger_book.specs.Reading.{StandsBehind}
use Rattle.ledger_book.specs.Replaying.{begun_with}
use Rattle.ledger_bytes.specs.declared.digest.Digest.{Digest}
use Rattle.ledger_model.specs.History.{journals_of}
use Rattle.ledger_model.specs.Lawful as lawful
use Rattle.pseudo_genesis.specs.declared.base.Base.{Base}
use Rattle.ledger_open.specs.Damages.{IsNotNext, IsOtherRoot, Begun, IsReadTo, IsNextHere, IsDamage}
use Rattle.ledger_open.specs.Opening.{known_from, HasTaken, HasRead, IsReadErr, as_open}
use Rattle.block_file.specs.Places.{body_from, place_at, place_of_record, places_in, content_from}
use Rattle.ledger_open.specs.Places.{entry_at}
use Rattle.ledger_open.specs.Standing.{ground}
use Rattle.ledger_open.specs.Starts.{IsStart}
use Rattle.ledger_open.specs.Replaying.{Headed, IsBadBlock}
use Rattle.block_file.specs.declared.place.PlaceAt.{PlaceAt}
use Rattle.ledger_open.proofs.BegunLaws.{begun_start, readto_start, begun_more}
use Rattle.ledger_open.proofs.GoesLaws.{first_goes}
use Rattle.ledger_open.proofs.PlaceLaws.{AreHere, open_here}
use Rattle.ledger_open.proofs.SizeLaws.{mth_size, record_sized}

-- ---- what was read of a block

headers_from : (at : ℕ) (es : List Entry) → map (λ (e : Entry). e.header) es ≡ map (λ (r : RecordAt). r.header) (records_from at es)
headers_from at [] = refl
headers_from at (e ∷ es) = ap (λ (l : List Header). e.header ∷ l) (headers_from (at + length (record_bytes e)) es)

pub headed_read : (at : ℕ) (es : List Entry) (block : BlockAt) → IsRead at es block → Headed es block.records
headed_read at es block r = headers_from (body_from at) es ∙ ap (map (λ (r : RecordAt). r.header)) (sym r.records)

layout_from : (at : ℕ) (es : List Entry) → AreReadable es → All (λ (r : RecordAt). IsHeader r.header) (records_from at es)
layout_from at [] a = All-nil (λ (r : RecordAt). IsHeader r.header)
layout_from at (e ∷ es) a = All-cons (λ (r : RecordAt). IsHeader r.header) (record_at at e) (records_from (at + length (record_bytes e)) es) a.0.rules (layout_from (at + length (record_bytes e)) es a.1)

pub layout_read : (at : ℕ) (es : List Entry) (block : BlockAt) → AreReadable es → IsRead at es block → All (λ (r : RecordAt). IsHeader r.header) block.records
layout_read at es block a r = subst (All (λ (r : RecordAt). IsHeader r.header)) (sym r.records) (layout_from (body_from at) es a)

-- ---- journal 0

pub genesis_first : (k : Kind) (jsn : ℕ) → IsTrue (jsn_ok k jsn) → jsn ≡ 0 → k ≡ kind.Genesis
genesis_first kind.Genesis jsn ok is = refl
genesis_first kind.Content jsn ok is = let lt = ltb-true 0 jsn ok in absurd (omega (arith, lt, is))
genesis_first kind.Member jsn ok is = let lt = ltb-true 0 jsn ok in absurd (omega (arith, lt, is))
genesis_first kind.Time jsn ok is = let lt = ltb-true 0 jsn ok in absurd (omega (arith, lt, is))
genesis_first kind.Occult jsn ok is = let lt = ltb-true 0 jsn ok in absurd (omega (arith, lt, is))
genesis_first kind.Purge jsn ok is = let lt = ltb-true 0 jsn ok in absurd (omega (arith, lt, is))
genesis_first kind.ClueOccult jsn ok is = let lt = ltb-true 0 jsn ok in absurd (omega (arith, lt, is))

pub genesis_of : (e : Entry) (es : List Entry) → AreBlock 0 (e ∷ es) → e.header.kind ≡ kind.Genesis
genesis_of e es b = genesis_first e.header.kind e.header.jsn b.readable.0.rules.jsn b.begins

pub first_next : (e : Entry) (es : List Entry) → AreBlock 0 (e ∷ es) → AreBehind None [] (e ∷ [])
first_next e es b = (
  record {
    layout = b.readable.0.rules;
    jsn = b.begins;
    below = omega (arith, b.begins);
    begins = tt;
    own = subst (IsOwnBehind None [] e.header) (sym (genesis_of e es b)) tt;
  },
  tt,
)

-- a second journal beside it
pub second_other : (es : List Entry) → AreBlock 0 es → 1 < length es → IsNotNext None [] es 1
second_other [] b more = absurd (omega (arith, more))
second_other (e ∷ []) b more = absurd (omega (arith, more))
second_other (e ∷ x ∷ es) b more = record {
  index = 1;
  inside = omega arith;
  number = refl;
  next = first_next e (x ∷ es) b;
  share = λ other. absurd (other refl);
  why = inr (λ can. true≢false (sym (can (λ one. let no : ⊥ = omega (arith, one) in no)) ∙ alone));
} where
  alone : list_all (λ (y : Entry). lawful.gathers y.header.kind) (e ∷ x ∷ []) ≡ false
  alone = ap (λ (k : Kind). lawful.gathers k && list_all (λ (y : Entry). lawful.gathers y.header.kind) (x ∷ [])) (genesis_of e (x ∷ es) b)

root_one : (x : List ℕ) → mth sha256 (x ∷ []) ≡ leaf sha256 x
unfolding root root_at
root_one x = refl

-- another root than that over its leaf
pub first_root : (es : List Entry) (rs : List RecordAt) (first : RecordAt) (kept found : List ℕ) → AreBlock 0 es → Headed es rs → rs ≡ first ∷ [] → found ≡ leaf sha256 (spelling first.header) → found ≢ kept → IsOtherRoot None [] es kept found
first_root [] rs first kept found b h one is other = absurd (omega (arith, b.some))
first_root (e ∷ x ∷ es) rs first kept found b h one is other = absurd (omega (arith, ap length (h ∙ ap (map (λ (r : RecordAt). r.header)) one)))
first_root (e ∷ []) rs first kept found b h one is other = record {
  next = first_next e [] b;
  share = λ more. absurd (more refl);
  found_is = is ∙ ap (λ (x : Header). leaf sha256 (spelling x)) (sym (ap (λ (l : List Header). get_or l 0 e.header) (h ∙ ap (map (λ (r : RecordAt). r.header)) one))) ∙ sym (root_one (spelling e.header));
  other = other;
}

pub single : (rs : List RecordAt) (r : RecordAt) → 1 ≤ length rs → length rs ≤ 1 → get_or rs 0 r ≡ r → rs ≡ r ∷ []
single [] r some most is = absurd (omega (arith, some))
single (x ∷ []) r some most is = ap (λ (y : RecordAt). y ∷ []) is
single (x ∷ y ∷ rs) r some most is = absurd (omega (arith, most))

-- ---- why a file is read no further

pub none_read : (file : List ℕ) (at : ℕ) → at ≡ 64 → IsStart file None → get_or file at 0 ≢ 1 → IsDamage file (damages.Entry 0)
none_read file at place s shut = inl (None, [], 64, refl, record { read = readto_start file None s; shut = (omega (arith, s.0.is_open.long), subst (λ (n : ℕ). get_or file n 0 ≢ 1) place shut); early = refl })

pub err_read : (file : List ℕ) (start : Option Base) (ks : List (List Entry)) (at : ℕ) (e : FileErr) → IsReadTo file start ks at → IsBlockErr at file (next_number start (journals_of ks)) e → IsReadErr file (as_open e)
err_read file start ks at files.DiskFault r why = tt
err_read file start ks at files.NoMemory r why = tt
err_read file start ks at (files.NewerFormat found) r why = absurd why
err_read file start ks at (files.Damaged damages.Magic) r (gate, inl why) = absurd why
err_read file start ks at (files.Damaged damages.Magic) r (gate, inr why) = absurd why.1
err_read file start ks at (files.Damaged (damages.BaseForm place)) r (gate, inl why) = absurd why
err_read file start ks at (files.Damaged (damages.BaseForm place)) r (gate, inr why) = absurd why.1
err_read file start ks at (files.Damaged (damages.Base kept found)) r (gate, inl why) = absurd why
err_read file start ks at (files.Damaged (damages.Base kept found)) r (gate, inr why) = absurd why.1
err_read file start ks at (files.Damaged (damages.Length place kept found)) r why = (start, ks, at, record { read = r; why = why })
err_read file start ks at (files.Damaged (damages.Entry jsn)) r why = inr (inl (start, ks, at, record { read = r; why = why }))
err_read file start ks at (files.Damaged (damages.Root block kept found)) r (gate, inl why) = absurd why
err_read file start ks at (files.Damaged (damages.Root block kept found)) r (gate, inr why) = absurd why.1
err_read file start ks at (files.Damaged (damages.Content jsn kept found)) r (gate, inl why) = absurd why
err_read file start ks at (files.Damaged (damages.Content jsn kept found)) r (gate, inr why) = absurd why.1

pub first_err : (file : List ℕ) (at : ℕ) (e : FileErr) → at ≡ 64 → IsStart file None → IsBlockErr at file 0 e → IsReadErr file (as_open e)
first_err file at e place s why = err_read file None [] 64 e (readto_start file None s) (subst (λ (n : ℕ). IsBlockErr n file 0 e) place why)

pub bad_read : (file : List ℕ) (start : Option Base) (ks : List (List Entry)) (at : ℕ) (root : List ℕ) (es : List Entry) (damage : Damage) → IsNextHere file start ks at root es → IsBadBlock start ks es root damage → IsDamage file damage
bad_read file start ks at root es damages.Magic n bad = bad
bad_read file start ks at root es (damages.BaseForm place) n bad = absurd bad
bad_read file start ks at root es (damages.Base kept found) n bad = absurd bad
bad_read file start ks at root es (damages.Length place kept found) n bad = absurd bad
bad_read file start ks at root es (damages.Entry jsn) n bad = inr (inr (start, ks, at, root, es, n, bad))
bad_read file start ks at root es (damages.Root block kept found) n bad = (start, ks, at, es, bad.0, subst (λ (r : List ℕ). IsNextHere file start ks at r es) (sym bad.1) n, bad.2)
bad_read file start ks at root es (damages.Content jsn kept found) n bad = absurd bad

-- ---- the first block where it stands

pub record FirstHere (file : List ℕ) (block : BlockAt) : Type 0 where
  pub es : List Entry
  pub are : AreBlock 0 es
  pub read : IsRead 64 es block
  pub stands : IsOpenBlock 64 block.root.0 es file

pub first_here : (file : List ℕ) (at : ℕ) (found : Option BlockAt) (block : BlockAt) → at ≡ 64 → found ≡ Some block → IsNextBlock at file 0 (Ok found) → FirstHere file block
first_here file at found block place is answer =
    let r = subst (λ (n : ℕ). IsNextBlock n file 0 (Ok (Some block))) place (subst (λ (o : Option BlockAt). IsNextBlock at file 0 (Ok o)) is answer) in
    record { es = r.0; are = r.1; read = r.2; stands = r.3 }

next_here : (file : List ℕ) (block : BlockAt) → IsStart file None → (f : FirstHere file block) → IsNextHere file None [] 64 block.root.0 f.es
next_here file block s f = record { read = readto_start file None s; are = f.are; stands = f.stands }

pub first_bad : (file : List ℕ) (block : BlockAt) (damage : Damage) → IsStart file None → (f : FirstHere file block) → ((es : List Entry) → AreBlock 0 es → Headed es block.records → IsBadBlock None [] es block.root.0 damage) → IsDamage file damage
first_bad file block damage plain f bad = bad_read file None [] 64 block.root.0 f.es damage (next_here file block plain f) (bad f.es f.are (headed_read 64 f.es block f.read))

-- journal 0, of which there is this record
record IsSingle (es : List Entry) (first : RecordAt) : Type 0 where
  pub entry : Entry
  pub is : es ≡ entry ∷ []
  pub place : first ≡ record_at (body_from 64) entry

single_of : (es : List Entry) (block : BlockAt) (first : RecordAt) → 1 ≤ length es → IsRead 64 es block → block.records ≡ first ∷ [] → IsSingle es first
single_of [] block first some r one = absurd (omega (arith, some))
single_of (e ∷ []) block first some r one = record { entry = e; is = refl; place = ap (λ (l : List RecordAt). get_or l 0 first) (sym one ∙ r.records) }
single_of (e ∷ x ∷ es) block first some r one = absurd (omega (arith, ap length (sym one ∙ r.records)))

keys_len : (e : Entry) (es : List Entry) → AreBlock 0 (e ∷ es) → e.header.content_len ≡ 64
keys_len e es b = eqb-true e.header.content_len 64 (subst (λ (k : Kind). IsTrue (content_len_ok k e.header.content_len)) (genesis_of e es b) b.readable.0.rules.content_len)

-- what is read at its place is its content
content_here : (file root : List ℕ) (e : Entry) → AreBlock 0 (e ∷ []) → IsOpenBlock 64 root (e ∷ []) file → take 64 (drop (content_from 64) file) ≡ e.content
content_here file root e b o =
    let whole : AreHere file (e ∷ []) (places_in (body_from 64) (e ∷ [])) = open_here 64 root (e ∷ []) file o b.readable in
    let one : entry_at file e.header (place_at (body_from 64) e) ≡ e = whole.0 in
    ap (λ (n : ℕ). take n (drop (content_from 64) file)) (sym (keys_len e [] b)) ∙ ap (λ (x : Entry). x.content) one

pub other_content : (file : List ℕ) (block : BlockAt) (first : RecordAt) (found : Digest) → IsStart file None → (f : FirstHere file block) → block.records ≡ first ∷ [] → block.root.0 ≡ leaf sha256 (spelling first.header)
    → found.0 ≢ first.header.content_digest.0 → found.0 ≡ content_digest_of (take 64 (drop first.content_at file)) → IsDamage file (damages.Content 0 first.header.content_digest found)
other_content file block first found plain f one root_is other is =
    let s = single_of f.es block first f.are.some f.read one in
    let b = subst (AreBlock 0) s.is f.are in
    let o = subst (λ (l : List Entry). IsOpenBlock 64 block.root.0 l file) s.is f.stands in
    let header : s.entry.header ≡ first.header = ap (λ (r : RecordAt). r.header) (sym s.place) in (
      block.root.0,
      f.es,
      refl,
      next_here file block plain f,
      record {
        first = s.entry;
        alone = s.is;
        root_is = root_is ∙ ap (λ (h : Header). leaf sha256 (spelling h)) (sym header) ∙ sym (root_one (spelling s.entry.header)) ∙ ap (λ (l : List Entry). (ground).root (leaves_of l)) (sym s.is);
        kept_is = ap (λ (h : Header). h.content_digest.0) (sym header);
        found_is = is ∙ ap (λ (n : ℕ). content_digest_of (take 64 (drop n file))) (ap (λ (r : RecordAt). r.content_at) s.place) ∙ ap content_digest_of (content_here file block.root.0 s.entry b o);
        other = other;
      },
    )

-- ---- the book that begins with it

abbrev with_content : List ℕ → Entry → Entry
with_content content e = record { header = e.header; content = content; who = e.who }

module _ (block : BlockAt) (first : RecordAt) (content : List ℕ) (book : Kept) (places : List PlaceAt) (place : ℕ)
    (one : block.records ≡ first ∷ []) (size : length content ≡ 64) (listed : places ≡ place_of_record first ∷ []) (tail : place ≡ 65 + block.len)
    (begun : (j : Entry) → j.header ≡ first.header → j.content ≡ content → Serves book (begun_with j) × StandsBehind book None (j ∷ [])) where
  first_taken : (e : Entry) → AreBlock 0 (e ∷ []) → IsRead 64 (e ∷ []) block → first ≡ record_at (body_from 64) e → HasTaken (known_from book places place) None ((with_content content e ∷ []) ∷ [])
  first_taken e b r at =
      let both = begun (with_content content e) (ap (λ (x : RecordAt). x.header) (sym at)) refl in
      let s = both.0 in
      record {
        legal = record {
          next = first_next (with_content content e) [] (record { some = b.some; most = b.most; readable = (with_readable, tt); begins = b.begins });
          blocks_are = All-cons lawful.IsBlock (with_content content e ∷ []) [] (record { some = omega arith; most = omega arith; gathered = λ more. absurd (more refl) }) (All-nil lawful.IsBlock);
          founded = s.stands.lawful.founded;
        };
        lawful = (record { some = omega arith; most = omega arith; entries = (record { jsn = b.begins; rules = b.readable.0.rules; widths = b.readable.0.widths; content = size ∙ sym (keys_len e [] b); who = b.readable.0.who }, tt) }, tt);
        goes = first_goes book (with_content content e) s both.1;
        places = listed ∙ ap (λ (x : RecordAt). place_of_record x ∷ []) at;
        tail = omega (arith, tail, r.len, record_sized e b.readable.0, length-append (record_bytes e) []);
        settled = omega (arith, s.stands.counts.size, s.stands.counts.sealed_is);
      }
    where
      with_readable : IsReadable (with_content content e)
      with_readable = record { rules = b.readable.0.rules; widths = b.readable.0.widths; content = size ∙ sym (keys_len e [] b); who = b.readable.0.who }

  pub first_read : (tells : Bool) (file : List ℕ) → (es : List Entry) × AreBlock 0 es × IsRead 64 es block → (IsTrue tells → IsStart file None) → (IsTrue tells → FirstHere file block) → (IsTrue tells → content ≡ take 64 (drop first.content_at file))
      → block.root.0 ≡ leaf sha256 (spelling first.header) → HasRead tells file (known_from book places place)
  first_read false file read start here told root_is =
      let s = single_of read.0 block first read.1.some read.2 one in
      record { start = None; blocks = (with_content content s.entry ∷ []) ∷ []; taken = first_taken s.entry (subst (AreBlock 0) s.is read.1) (subst (λ (l : List Entry). IsRead 64 l block) s.is read.2) s.place; begun = λ t. absurd (true≢false (sym t)) }
  first_read true file read start here told root_is =
      let f = here refl in
      let s = single_of f.es block first f.are.some f.read one in
      let b = subst (AreBlock 0) s.is f.are in
      let o = subst (λ (l : List Entry). IsOpenBlock 64 block.root.0 l file) s.is f.stands in
      let k = first_taken s.entry b (subst (λ (l : List Entry). IsRead 64 l block) s.is f.read) s.place in
      let same : with_content content s.entry ≡ s.entry =
      ap (λ (c : List ℕ). with_content c s.entry) (told refl ∙ ap (λ (n : ℕ). take 64 (drop n file)) (ap (λ (r : RecordAt). r.content_at) s.place) ∙ content_here file block.root.0 s.entry b o) in
      record {
        start = None;
        blocks = (with_content content s.entry ∷ []) ∷ [];
        taken = k;
        begun = λ t. record {
          begins = start refl;
          begun = subst (Begun ground file ((with_content content s.entry ∷ []) ∷ [])) (sym k.tail)
              (begun_more ground mth_size file [] 64 block.root.0 (with_content content s.entry ∷ []) (begun_start file None (start refl)) (subst (λ (x : Entry). IsOpenBlock 64 block.root.0 (x ∷ []) file) (sym same) o)
              (root_is ∙ ap (λ (r : RecordAt). leaf sha256 (spelling r.header)) s.place ∙ sym (root_one (spelling s.entry.header))) (k.lawful.0));
          legal = λ some. k.legal;
        };
      }

-- what is said of the value of an option
pub some_of : {A : Type 0} (P : A → Type 0) (o : Option A) (x : A) → o ≡ Some x → IfSome o P → P x
some_of {A} P o x is p = subst (λ (q : Option A). IfSome q P) is p

pub read_at : (o : Option BlockAt) (block : BlockAt) (at : ℕ) → at ≡ 64 → o ≡ Some block → IfSome o (λ b. (es : List Entry) × AreBlock 0 es × IsRead at es b) → (es : List Entry) × AreBlock 0 es × IsRead 64 es block
read_at o block at place is r = subst (λ (n : ℕ). (es : List Entry) × AreBlock 0 es × IsRead n es block) place (some_of (λ (b : BlockAt). (es : List Entry) × AreBlock 0 es × IsRead at es b) o block is r)
