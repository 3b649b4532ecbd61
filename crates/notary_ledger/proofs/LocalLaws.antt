-- Laws of a notary's list and its file.
use Rattle.std.specs.Prelude.{Option, Some, None, IsTrue, Bool, IsSome, IsSomeAnd, slice_get}
use Rattle.std.specs.List.{AllByRecursion}
use Rattle.std.specs.Int.{w64, to_be_bytes, from_be_bytes}
use Rattle.std.proofs.Common.{◌≡◌, ℕ, zero, suc, ◌+◌, ◌-◌, ◌*◌, ◌<◌, ◌≤◌, ◌^◌, List, [], ◌∷◌, ◌++◌, length, take, refl, sym, ◌∙◌, ap, subst, arith, length-append}
use Rattle.std.proofs.lemmas.Bool.{true≢false}
use Rattle.std.proofs.lemmas.List.{take_at}
use Rattle.std.proofs.lemmas.Nat.{from_be_bytes-to_be_bytes_8}
use Rattle.ledger_bytes.specs.Causes.{count_after, Rose}
use Rattle.ledger_disk.specs.Disk.{DiskState}
use Rattle.time_peg.specs.Entries.{IsList, last_time, time_in, entry_of}
use Rattle.journal_record.specs.declared.rules.TheConstants.{NOTARY_LIMIT}
use Rattle.time_peg.proofs.EntryLaws.{list_push}
use Rattle.notary_ledger.specs.Slots.{opened, tail_of, Shut, OnDisk}
use Rattle.notary_ledger.specs.Notaries.{Sound, HasTimes}

last_time_push : (least : ℕ) (es : List (List ℕ)) (e : List ℕ) → last_time least (es ++ e ∷ []) ≡ time_in e
last_time_push least [] e = refl
last_time_push least (x ∷ es) e = last_time_push (time_in x) es e

pub tail_length : (es : List (List ℕ)) → AllByRecursion (λ (e : List ℕ). length e ≡ 72) es → tail_of es ≡ 73 * length es
tail_length [] widths = refl
tail_length (e ∷ es) widths = omega (arith, length-append (1 ∷ e) (opened es), tail_length es widths.1, widths.0)

pub more_told : (o : Option ℕ) (j k : ℕ) → j ≤ k → IsSomeAnd o (λ n. k ≤ n) → IsSomeAnd o (λ n. j ≤ n)
more_told None j k le told = told
more_told (Some n) j k le told = omega (arith, told)

pub time_of_entry : (time : ℕ) (peg salt entry : List ℕ) → time < 2 ^ 64 → entry ≡ entry_of time peg salt → time_in entry ≡ time
unfolding time_in
time_of_entry time peg salt entry fits is =
    ap time_in is ∙ ap (from_be_bytes w64) (take_at (to_be_bytes w64 time) (peg ++ salt) 8 refl) ∙ from_be_bytes-to_be_bytes_8 time fits

pub time_is : (first entry : List ℕ) (n : ℕ) → first ≡ take 8 entry → n ≡ from_be_bytes w64 first → n ≡ time_in entry
unfolding time_in
time_is first entry n same is = is ∙ ap (from_be_bytes w64) same

last_end : (least : ℕ) (es : List (List ℕ)) (e : List ℕ) (i : ℕ) → i + 1 ≡ length es → slice_get es i ≡ Some e → last_time least es ≡ time_in e
last_end least [] e i end is = absurd (omega arith)
last_end least (x ∷ []) e zero end is = let same : x ≡ e = cc in ap time_in same
last_end least (x ∷ []) e (suc i) end is = absurd (omega arith)
last_end least (x ∷ y ∷ es) e zero end is = absurd (omega arith)
last_end least (x ∷ y ∷ es) e (suc i) end is = last_end (time_in x) (y ∷ es) e i (omega arith) is

pub last_at : (es : List (List ℕ)) (e : List ℕ) → Some e ≡ slice_get es (length es - 1) → last_time 0 es ≡ time_in e
last_at [] e is = absurd (let no : ⊥ = cc in no)
last_at (x ∷ es) e is = last_end 0 (x ∷ es) e (length (x ∷ es) - 1) (omega arith) (sym is)

pub place : (tells : Bool) (es : List (List ℕ)) (half : Option (List ℕ)) (disk : DiskState) → Sound tells es half disk → tail_of es ≡ 73 * length es
place tells es half disk sound = tail_length es sound.list.widths

pub told_place : (tells : Bool) (es : List (List ℕ)) (half : Option (List ℕ)) (disk : DiskState) (k : ℕ) → k ≡ length es → Sound tells es half disk → IsSomeAnd disk.told (λ n. 73 * k + 1 ≤ n)
told_place tells es half disk k is sound = more_told disk.told (73 * k + 1) (tail_of es + 1) (omega (arith, place tells es half disk sound, is)) sound.told

-- an entry behind a list
pub list_after : (es new : List (List ℕ)) (e : List ℕ) (k : ℕ) → IsList es → k ≡ length es → k < NOTARY_LIMIT → length e ≡ 72 → last_time 0 es ≤ time_in e → new ≡ es ++ e ∷ [] → IsList new
list_after es new e k list is_k few width later is = subst IsList (sym is) (list_push es e list (omega (arith, few, is_k)) width later)

-- a stamp that put an entry of the next index behind the list, or failed
module _ (tells : Bool) (es new : List (List ℕ)) (e : List ℕ) (half half' : Option (List ℕ)) (disk disk' : DiskState) (sound : Sound tells es half disk)
    (k : ℕ) (is_k : k ≡ length es) (few : k < NOTARY_LIMIT) (width : length e ≡ 72) (later : last_time 0 es ≤ time_in e) where
  listed : IsList (es ++ e ∷ [])
  listed = list_after es (es ++ e ∷ []) e k sound.list is_k few width later refl

  here : tail_of es ≡ 73 * k
  here = omega (arith, place tells es half disk sound, is_k)

  pub sound_put : new ≡ es ++ e ∷ [] → half' ≡ None → IsSomeAnd disk'.told (λ n. 73 * k + 74 ≤ n)
      → (IsTrue tells → (l : List (List ℕ)) → tail_of l ≡ 73 * k → OnDisk l half disk.bytes → Shut (l ++ e ∷ []) disk'.bytes) → Sound tells new half' disk'
  sound_put is none long put =
      let size : tail_of new ≡ 73 * k + 73 = ap tail_of is ∙ tail_length (es ++ e ∷ []) listed.widths ∙ omega (arith, length-append es (e ∷ []), is_k) in
      record {
        list = subst IsList (sym is) listed;
        told = more_told disk'.told (tail_of new + 1) (73 * k + 74) (omega (arith, size)) long;
        on_disk = λ yes. subst (λ (h : Option (List ℕ)). OnDisk new h disk'.bytes) (sym none) (subst (λ (l : List (List ℕ)). Shut l disk'.bytes) (sym is) (put yes es here (sound.on_disk yes)));
      }

  pub sound_failed : new ≡ es → ((j : ℕ) → IsSomeAnd disk.told (λ n. j ≤ n) → IsSomeAnd disk'.told (λ n. j ≤ n))
      → (IsTrue tells → (l : List (List ℕ)) → tail_of l ≡ 73 * k → IsList (l ++ e ∷ []) → OnDisk l half disk.bytes → OnDisk l half' disk'.bytes) → Sound tells new half' disk'
  sound_failed is long put = record {
    list = subst IsList (sym is) sound.list;
    told = more_told disk'.told (tail_of new + 1) (tail_of es + 1) (omega (arith, ap tail_of is)) (long (tail_of es + 1) sound.told);
    on_disk = λ yes. subst (λ (l : List (List ℕ)). OnDisk l half' disk'.bytes) (sym is) (put yes es here listed (sound.on_disk yes));
  }

-- an entry with the time of its place behind a list of such entries
pub has_times_push : (es new : List (List ℕ)) (e : List ℕ) (k : ℕ) → HasTimes es → k ≡ length es → k < NOTARY_LIMIT → length e ≡ 72 → time_in e ≡ 1000 * (k + 1) → new ≡ es ++ e ∷ [] → HasTimes new
has_times_push es new e k times is_k few width at is = subst HasTimes (sym is) (record {
  list = list_push es e times.list (omega (arith, few, is_k)) width (omega (arith, times.last, at, is_k));
  last = last_time_push 0 es e ∙ at ∙ omega (arith, length-append es (e ∷ []), is_k);
})

-- a count that rose once more is no less, and has risen
pub least_on : (begun old now : ℕ) → begun < 2 ^ 64 → begun ≤ old → now ≡ count_after old → begun ≤ now
least_on begun old now fits least rose = omega (arith, fits, least, rose)

pub rose_on : (begun old now : ℕ) → begun ≤ old → now ≡ count_after old → Rose begun now
rose_on begun old now least rose = omega (arith, least, rose)

-- no entry's gate was called to be written
pub none_half : (half : Option (List ℕ)) → half ≡ None → IsSome half → ⊥
none_half half none some = true≢false (sym (subst (λ (o : Option (List ℕ)). IsSome o) none some))
