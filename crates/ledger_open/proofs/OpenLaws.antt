-- A pair of files when it is opened.
use Rattle.std.specs.Prelude.{Bool, true, false, Option, Some, option_map, Result, Ok, Err, IsErrAnd}
use Rattle.std.proofs.Common.{◌≡◌, ◌≢◌, ◌⊎◌, inl, inr, refl, ℕ, ◌+◌, List, [], ◌∷◌, ◌++◌, length, take, sym, ◌∙◌, ap, subst, arith, append_assoc, length-append}
use Rattle.std.proofs.lemmas.List.{take_at}
use Rattle.block_file.specs.File.{IsSettled, open_blocks, tail_of}
use Rattle.block_file.specs.Head.{IsShut, IsOpen, HasHead, IsHeadErr, IsResumeErr, number_at, version_in}
use Rattle.block_file.specs.declared.failure.Damage.{Damage}
use Rattle.block_file.specs.declared.failure.Damage.TheVariants as damages
use Rattle.block_file.specs.declared.failure.FileErr.{FileErr}
use Rattle.block_file.specs.declared.failure.FileErr.TheVariants as files
use Rattle.journal_record.specs.Blocks.{written_blocks}
use Rattle.journal_record.specs.Entry.{Entry}
use Rattle.ledger_disk.proofs.Guarding.{settled_image}
use Rattle.ledger_disk.specs.Disk.{State, settled_state, MayLeave}
use Rattle.ledger_model.specs.History.{History}
use Rattle.pseudo_genesis.specs.declared.base.Base.{Base}
use Rattle.twin_file.proofs.TakeLaws.{taken_once, reopen_err}
use Rattle.twin_file.specs.Picking.{IsReopened as IsLooked}
use Rattle.twin_file.specs.Twin.{choice, IsTaken, IsReopenErr}
use Rattle.twin_file.specs.Which.{in_a_of, generation_in, file_of, view_of}
use Rattle.twin_file.specs.declared.twin.Twin.{Twin}
use Rattle.ledger_open.specs.Heads.{Edition, edition_from, edition_of, edition_in}
use Rattle.ledger_open.specs.Damages.{IsDamage}
use Rattle.ledger_open.specs.Opening.{GoesOn, Known, Knows, HasLawfulBlocks, HasFile, IsHeadOf, IsOutside, IsOpenErr, as_open}
use Rattle.block_file.specs.Places.{after_at}
use Rattle.ledger_open.specs.Reopened.{IsMended}
use Rattle.ledger_open.specs.Standing.{Floor, floor_from, HasBlocks, StandsFor, IsBeside, PairFor}
use Rattle.ledger_open.specs.Starts.{IsDecoded, HasBase}
use Rattle.ledger_open.specs.declared.failure.OpenErr.{OpenErr}
use Rattle.ledger_open.specs.declared.failure.OpenErr.TheVariants as errors
use Rattle.ledger_open.proofs.DamageLaws.{fits_there, none_damaged}
use Rattle.ledger_open.proofs.HeadLaws.{pair_takes, taken_is}
use Rattle.ledger_open.proofs.PlaceLaws.{tail_place}
use Rattle.ledger_open.proofs.StartLaws.{digests_from}
use Rattle.ledger_open.proofs.WholeLaws.{goes_on, stands_lawful}

-- where the tail gate of a file with blocks stands
pub tail_is : (start : Option Base) → IsDecoded start → (edition : Edition) (bs : List (List Entry)) (file : List ℕ) (x : HasBlocks (floor_from start) edition bs file) → tail_of x.front (written_blocks (floor_from start).root [] bs) ≡ after_at (64 + length (floor_from start).base) bs
tail_is start decoded edition bs file x = tail_place (floor_from start) (digests_from start decoded) x.front (64 + length (floor_from start).base) bs x.lawful x.head.size

-- a file that was read is whole
pub lawful_file : {start : Option Base} {k : Known} {blocks : List (List Entry)} {file : List ℕ} → Knows k start blocks → HasFile start blocks file → HasLawfulBlocks file
lawful_file {start = start} {blocks = blocks} knows has = (start, blocks, record { edition = has.0; has = has.1; base = knows.base; legal = knows.legal; reached = knows.reached })

-- ---- which file is taken

-- the file that is taken stands for the history, and the other is beside it
pub record IsTakenFor (x : Bool) (a b : List ℕ) (h : History) : Type 0 where
  pub stands : StandsFor (choice x a b) h
  pub beside : IsBeside h stands.file.edition (choice x b a)

pub taken_pair : (x : Bool) (a b : List ℕ) (h : History) → IsTaken x a b → PairFor a b h → IsTakenFor x a b h
taken_pair x a b h t p = subst (λ (y : Bool). IsTakenFor y a b h) (sym (taken_is x a b h t p)) (record { stands = p.stands; beside = p.beside })

-- the error that a failed call of a disk brings
pub fault_is : {T : Type 0} (r : Result T OpenErr) → IsErrAnd r (λ e. e ≡ errors.DiskFault) → r ≡ Err errors.DiskFault
fault_is (Ok value) is = absurd is
fault_is (Err error) is = ap Err is

-- nothing is written: each image is what was read
pub same_pair : (h : History) (a b na nb : State) → na ≡ a → nb ≡ b → IsSettled a → IsSettled b → PairFor a.seen b.seen h
    → (image_a image_b : List ℕ) → MayLeave na image_a → MayLeave nb image_b → PairFor image_a image_b h
same_pair h a b na nb ea eb qa qb p image_a image_b la lb =
    let one : image_a ≡ a.seen = settled_image a.seen image_a (subst (λ (s : State). MayLeave s image_a) (ea ∙ qa) la) in
    let two : image_b ≡ b.seen = settled_image b.seen image_b (subst (λ (s : State). MayLeave s image_b) (eb ∙ qb) lb) in
    subst (λ (x : List ℕ). PairFor x image_b h) (sym one) (subst (λ (x : List ℕ). PairFor a.seen x h) (sym two) p)

-- the same where both were synced
pub settled_pair : (h : History) (a b na nb : State) → na ≡ settled_state a.seen → nb ≡ settled_state b.seen → PairFor a.seen b.seen h
    → (image_a image_b : List ℕ) → MayLeave na image_a → MayLeave nb image_b → PairFor image_a image_b h
settled_pair h a b na nb ea eb p = same_pair h (settled_state a.seen) (settled_state b.seen) na nb ea eb refl refl p

-- both were synced
pub synced : (s m : State) → m ≡ settled_state s.seen → IsSettled m
synced s m e = e ∙ ap settled_state (sym (ap (λ (s : State). s.seen) e))

-- ---- the file that is taken

pub record IsTakenAs (a b : List ℕ) (x : Bool) (twin : Twin) : Type 0 where
  pub taken : IsTaken x a b
  pub edition : edition_in twin ≡ edition_of (choice x a b)
  pub head : IsHeadOf (choice x a b) (file_of twin)

pub taken_as : (a b : List ℕ) (found : Option Twin) (twin : Twin) (x : Bool) → found ≡ Some twin → IsLooked a b (option_map view_of found) → in_a_of twin ≡ x → IsTakenAs a b x twin
taken_as a b found twin x is looked which =
    let l = subst (λ (o : Option Twin). IsLooked a b (option_map view_of o)) is looked in
    subst (λ (y : Bool). IsTakenAs a b y twin) which (record { taken = l.0; edition = ap (λ n. edition_from n (generation_in twin)) l.2 ∙ ap (edition_from (version_in (choice (in_a_of twin) a b))) l.1; head = record { head = l.0.head; base_len = l.4; base_digest = l.5 } })

pub taken_at : (a b a_now b_now : State) (x : Bool) (twin : Twin) → a_now ≡ a → b_now ≡ b → IsTakenAs a.seen b.seen x twin → IsTaken x a_now.seen b_now.seen
taken_at a b a_now b_now x twin same_a same_b t =
    subst (λ (s : State). IsTaken x s.seen b_now.seen) (sym same_a) (subst (λ (s : State). IsTaken x a.seen s.seen) (sym same_b) t.taken)

look_err_by : (a b : List ℕ) (e : FileErr) → IsReopenErr a b e → IsOpenErr a b (as_open e)
look_err_by a b files.DiskFault why = tt
look_err_by a b files.NoMemory why = tt
look_err_by a b (files.NewerFormat found) why = why
look_err_by a b (files.Damaged damage) why = inl why

pub look_err : (a b a_now b_now : List ℕ) (e : FileErr) → a_now ≡ a → b_now ≡ b → IsReopenErr a_now b_now e → IsOpenErr a b (as_open e)
look_err a b a_now b_now e same_a same_b why = look_err_by a b e (subst (λ (l : List ℕ). IsReopenErr l b e) same_a (subst (λ (l : List ℕ). IsReopenErr a_now l e) same_b why))

-- ---- what keeps a pair from being opened

resume_no : (file : List ℕ) (damage : Damage) → HasBase file → IsResumeErr file (number_at 18 file) (files.Damaged damage) → ⊥
resume_no file damages.Magic fits r = r
resume_no file (damages.BaseForm place) fits r = r
resume_no file (damages.Base kept found) fits r = r
resume_no file (damages.Length place kept found) fits r = omega (arith, r.1, r.2, r.3, fits)
resume_no file (damages.Entry jsn) fits r = r
resume_no file (damages.Root block kept found) fits r = r
resume_no file (damages.Content jsn kept found) fits r = r

shut_open : (file : List ℕ) → IsShut file → IsOpen file → ⊥
shut_open file (inl short) open_ = omega (arith, short, open_.long)
shut_open file (inr gate) open_ = gate open_.gate

open_of_err : (file : List ℕ) (damage : Damage) → IsHeadErr file (files.Damaged damage) → IsOpen file × (HasHead file → ⊥)
open_of_err file damages.Magic e = (e.0, λ h. e.1 h.magic_is)
open_of_err file (damages.BaseForm place) e = absurd e
open_of_err file (damages.Base kept found) e = absurd e
open_of_err file (damages.Length place kept found) e = absurd e
open_of_err file (damages.Entry jsn) e = absurd e
open_of_err file (damages.Root block kept found) e = absurd e
open_of_err file (damages.Content jsn kept found) e = absurd e

shut_of : (a b : List ℕ) (x : Bool) → IsShut a → IsShut b → IsShut (choice x a b)
shut_of a b true sa sb = sa
shut_of a b false sa sb = sb

-- where this file is taken, and is whole, nothing but a fault or want of memory does
module _ (x : Bool) (a b : List ℕ) (t : IsTaken x a b) (w : HasLawfulBlocks (choice x a b)) where
  by_looks : (e : FileErr) → e ≢ files.DiskFault → IsReopenErr a b e → IsResumeErr (choice x a b) (number_at 18 (choice x a b)) e
  by_looks e other why = elim (reopen_err a b e x (choice x a b) (record { taken = t; is = refl }) why) [ inl fault ↦ absurd (other fault) | inr r ↦ r ]

  pub opened_only : (e : OpenErr) → IsOpenErr a b e → IsOutside e
  opened_only errors.DiskFault why = tt
  opened_only errors.NoMemory why = tt
  opened_only errors.Empty why = shut_open (choice x a b) (shut_of a b x why.0 why.1) t.head.is_open
  opened_only errors.Exists why = why
  opened_only (errors.NewerFormat found) why = by_looks (files.NewerFormat found) (λ same. let no : ⊥ = cc same in no) why
  opened_only (errors.Damaged damage) (inl why) =
      resume_no (choice x a b) damage (fits_there (floor_from w.0) w.2.edition w.1 (choice x a b) w.2.has) (by_looks (files.Damaged damage) (λ same. let no : ⊥ = cc same in no) why)
  opened_only (errors.Damaged damage) (inr why) =
      none_damaged (choice x a b) w.0 w.1 w.2 damage (subst (λ (y : Bool). IsDamage (choice y a b) damage) (taken_once a b why.0 x why.1 t) why.2)

-- a pair that stands for a history is opened
pub pair_opens : (a b : List ℕ) (h : History) (p : PairFor a b h) (e : OpenErr) → IsOpenErr a b e → IsOutside e
pair_opens a b h p e why = opened_only p.in_a a b (pair_takes a b h p) (stands_lawful (choice p.in_a a b) h p.stands) e why

pub state_seen : (x : Bool) (a b : State) → (choice x a b).seen ≡ choice x a.seen b.seen
state_seen true a b = refl
state_seen false a b = refl

pub mended_only : (k : Known) (x : Bool) (start : Option Base) (ks : List (List Entry)) (a b a_new b_new : State) (e : OpenErr) → IsMended x k start ks a b a_new b_new → IsOpenErr a.seen b.seen e → IsOutside e
mended_only k x start ks a b a_new b_new e r why =
    let w : HasLawfulBlocks (choice r.was.in_a a b).seen = lawful_file r.read.knows r.read.has in
    opened_only r.was.in_a a.seen b.seen r.read.taken (subst HasLawfulBlocks (state_seen r.was.in_a a b) w) e why

-- where both are shut
pub shut_empty : (a b : List ℕ) → IsShut a → IsShut b → (e : OpenErr) → IsOpenErr a b e → IsOutside e ⊎ (e ≡ errors.Empty)
shut_empty a b sa sb errors.DiskFault why = inl tt
shut_empty a b sa sb errors.NoMemory why = inl tt
shut_empty a b sa sb errors.Empty why = inr refl
shut_empty a b sa sb errors.Exists why = absurd why
shut_empty a b sa sb (errors.NewerFormat found) (inl why) = absurd (shut_open a sa why.0)
shut_empty a b sa sb (errors.NewerFormat found) (inr (inl why)) = absurd (shut_open b sb why.1.0)
shut_empty a b sa sb (errors.NewerFormat found) (inr (inr why)) = absurd why.2
shut_empty a b sa sb (errors.Damaged damage) (inl (inl why)) = absurd (shut_open a sa (open_of_err a damage why).0)
shut_empty a b sa sb (errors.Damaged damage) (inl (inr (inl why))) = absurd (shut_open b sb (open_of_err b damage why.1).0)
shut_empty a b sa sb (errors.Damaged damage) (inl (inr (inr (x, taken, why)))) = absurd (shut_open (choice x a b) (shut_of a b x sa sb) taken.head.is_open)
shut_empty a b sa sb (errors.Damaged damage) (inr (x, taken, why)) = absurd (shut_open (choice x a b) (shut_of a b x sa sb) taken.head.is_open)

-- the file that was taken of a pair that stands for a history does
pub stands_open : (x : Bool) (a b : State) (h : History) → IsTaken x a.seen b.seen → PairFor a.seen b.seen h → StandsFor (choice x a b).seen h
stands_open x a b h t p = subst (λ (file : List ℕ). StandsFor file h) (sym (state_seen x a b)) (taken_pair x a.seen b.seen h t p).stands

-- a history that the pair stands for goes on with what was read
pub mended_goes : (k : Known) (x : Bool) (start : Option Base) (ks : List (List Entry)) (a b a_new b_new : State) (h : History) (r : IsMended x k start ks a b a_new b_new) → PairFor a.seen b.seen h → GoesOn r.was.start r.was.blocks h
mended_goes k x start ks a b a_new b_new h r p =
    goes_on (choice r.was.in_a a b).seen h r.was.start r.was.blocks r.read.has.0 (stands_open r.was.in_a a b h r.read.taken p) r.read.knows.base r.read.has.1

-- a pair whose open file is whole has no other cause of refusal than a fault or want of memory
pub whole_opens : (x : Bool) (a b na nb : List ℕ) → na ≡ a → nb ≡ b → IsTaken x na nb → HasLawfulBlocks (choice x na nb) → (e : OpenErr) → IsOpenErr a b e → IsOutside e
whole_opens x a b na nb ea eb t w e why =
    opened_only x na nb t w e (subst (λ (l : List ℕ). IsOpenErr l nb e) (sym ea) (subst (λ (l : List ℕ). IsOpenErr a l e) (sym eb) why))

-- ---- a file that was cut behind its tail gate

module _ (floor : Floor) (edition : Edition) (bs : List (List Entry)) (file : List ℕ) (x : HasBlocks floor edition bs file) (at : ℕ) (ends : tail_of x.front (written_blocks floor.root [] bs) ≡ at) where
  cut_is : take (at + 1) file ≡ (x.front ++ open_blocks (written_blocks floor.root [] bs)) ++ x.stands.gate ∷ []
  cut_is =
      ap (λ (l : List ℕ). take (at + 1) l) (x.stands.is ∙ sym (append_assoc (x.front ++ open_blocks (written_blocks floor.root [] bs)) (x.stands.gate ∷ []) x.stands.rest))
      ∙ take_at ((x.front ++ open_blocks (written_blocks floor.root [] bs)) ++ x.stands.gate ∷ []) x.stands.rest (at + 1) (omega (arith, ends, length-append (x.front ++ open_blocks (written_blocks floor.root [] bs)) (x.stands.gate ∷ [])))

  pub cut_has : HasBlocks floor edition bs (take (at + 1) file)
  cut_has = record { front = x.front; head = x.head; lawful = x.lawful; stands = record { gate = x.stands.gate; rest = []; is = cut_is; shut = x.stands.shut } }

  pub cut_length : length (take (at + 1) file) ≡ at + 1
  cut_length = ap length cut_is ∙ omega (arith, ends, length-append (x.front ++ open_blocks (written_blocks floor.root [] bs)) (x.stands.gate ∷ []))
