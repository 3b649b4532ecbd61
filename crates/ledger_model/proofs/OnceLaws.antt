-- A number of a member is one kept record's, and a request that is sent again is told that record's receipt.
use Rattle.std.specs.Prelude.{slice_get, bytes_eq, nat_lt, nat_le, ◌==◌}
use Rattle.std.specs.Option.{option_or, option_map}
use Rattle.std.proofs.Common.{◌≡◌, ◌≢◌, ℕ, zero, suc, ◌+◌, ◌-◌, ◌<◌, ◌&&◌, ◌||◌, Bool, true, false, cond, List, [], ◌∷◌, ◌++◌, length, length-append, map, take, drop, Option, Some, None, refl, sym, subst, ap, ◌∙◌, arith, append_assoc, append-nil}
use Rattle.std.proofs.lemmas.Bool.{and_parts, and_from, eqb-true, eq-eqb, ltb-true, ltb-false, lt-leb, true≢false, false_from_ne_true}
use Rattle.std.proofs.lemmas.List.{take-append-drop}
use Rattle.std.proofs.lemmas.Option.{none-some, get_or_from_slice_get, slice_get-map}
use Rattle.std.proofs.lemmas.Slice.Eq.{bytes_eq-Decides}
use Rattle.ledger_bytes.specs.Digests.{digest}
use Rattle.ledger_bytes.specs.declared.digest.Digest.{Digest}
use Rattle.ledger_bytes.specs.declared.limits.TheConstants.{BLOCK_LIMIT}
use Rattle.ledger_bytes.specs.declared.refusal.Refusal.{Refusal}
use Rattle.ledger_bytes.specs.declared.refusal.Refusal.TheVariants.{NumberTaken}
use Rattle.journal_record.specs.Entry.{Entry}
use Rattle.journal_record.specs.declared.approval.Approval.{Approval}
use Rattle.journal_record.specs.declared.header.Header.{Header}
use Rattle.journal_record.specs.declared.header.Kind.{Kind}
use Rattle.journal_record.specs.declared.header.Kind.TheVariants as kind
use Rattle.member_book.specs.Erasures.{is_record, first_refusal}
use Rattle.ledger_model.specs.Anchors.{stamp_of}
use Rattle.ledger_model.specs.Appends.{append_header, append_journal}
use Rattle.ledger_model.specs.Fitting.{fits_job}
use Rattle.ledger_model.specs.History.{History, history, journals, journals_of, size, point, greatest_point, close}
use Rattle.ledger_model.specs.Judgements.{unknown_in, wrong_key_in, fullness, clues_full, own_refusal}
use Rattle.ledger_model.specs.Lawful.{IsNext, IsNextOf, AreNext, AreLawful, IsLawful}
use Rattle.ledger_model.specs.Limits.{real_limits}
use Rattle.ledger_model.specs.Members.{keys}
use Rattle.ledger_model.specs.Numbers.{is_numbered, place_from, numbered, link_at, taken_by, repeated_by, number_taken, repeated, unless_repeated}
use Rattle.ledger_model.specs.Outcomes.{after_judgement, judged_outcome, outcome, record_outcome, with_job, with_waiting}
use Rattle.ledger_model.specs.Repeats.{IsKeptRecord, who_refusal}
use Rattle.ledger_model.specs.Rules.{after_job, closes_after, settled_history}
use Rattle.ledger_model.specs.Step.{Step}
use Rattle.ledger_model.specs.Targets.{leaf_at}
use Rattle.ledger_model.specs.Texts.{answer_for, answer_to}
use Rattle.ledger_model.specs.declared.answer.Answer.TheVariants.{Receipt}
use Rattle.ledger_model.specs.declared.job.Job.{Job}
use Rattle.ledger_model.specs.declared.job.Job.TheVariants.{Append}
use Rattle.ledger_model.proofs.KeepLaws.{job_lawful, journals_close, unplaced}
use Rattle.ledger_model.proofs.LawfulLaws.{lawful_from, point_below, some_journal, two_points}
use Rattle.ledger_model.proofs.WaitLaws.{slice_get-last}

-- ---- places

-- what is so of one of some journals is found
has_place : (m i : ℕ) (is : Entry → Bool) (es : List Entry) (e : Entry) → slice_get es i ≡ Some e → is e ≡ true → place_from m is es ≢ None
has_place m i is [] e at so none = none-some e at
has_place m zero is (x ∷ es) e at so none = by_later (place_from (m + 1) is es) (is x) (let same : x ≡ e = cc in ap is same ∙ so) none where
  by_later : (later : Option ℕ) (b : Bool) → b ≡ true → option_or later (cond b (Some m) None) ≢ None
  by_later (Some k) b t none = none-some k (sym none)
  by_later None true t none = none-some m (sym none)
  by_later None false t none = true≢false (sym t)
has_place m (suc i) is (x ∷ es) e at so none = has_place (m + 1) i is es e at so (by_later (place_from (m + 1) is es) (cond (is x) (Some m) None) none) where
  by_later : (later here : Option ℕ) → option_or later here ≡ None → later ≡ None
  by_later (Some k) here none = none
  by_later None here none = refl

-- what stands at a place that is found
record IsFound (m n : ℕ) (is : Entry → Bool) (es : List Entry) : Type 0 where
  index : ℕ
  journal : Entry
  place : n ≡ m + index
  at : slice_get es index ≡ Some journal
  so : is journal ≡ true

found_at : (m n : ℕ) (is : Entry → Bool) (es : List Entry) → place_from m is es ≡ Some n → IsFound m n is es
found_at m n is [] found = absurd (none-some n found)
found_at m n is (e ∷ es) found = by_later (place_from (m + 1) is es) (is e) refl found (λ at. found_at (m + 1) n is es at) where
  by_later : (later : Option ℕ) (b : Bool) → is e ≡ b → option_or later (cond b (Some m) None) ≡ Some n → (later ≡ Some n → IsFound (m + 1) n is es) → IsFound m n is (e ∷ es)
  by_later (Some k) b here found next =
      let later = next found in
      record { index = suc later.index; journal = later.journal; place = omega (arith, later.place); at = later.at; so = later.so }
  by_later None true here found next = let same : m ≡ n = cc in record { index = 0; journal = e; place = omega (arith, same); at = refl; so = here }
  by_later None false here found next = absurd (none-some n found)

-- ---- parts of a list

drop_at : (p i k : ℕ) (js : List Entry) (e : Entry) → i ≡ p + k → slice_get js i ≡ Some e → slice_get (drop p js) k ≡ Some e
drop_at zero i k js e place at = let same : i ≡ k = omega (arith, place) in subst (λ n. slice_get js n ≡ Some e) same at
drop_at (suc p) i k [] e place at = absurd (none-some e at)
drop_at (suc p) zero k (j ∷ js) e place at = absurd (omega (arith, place))
drop_at (suc p) (suc i) k (j ∷ js) e place at = drop_at p i k js e (omega (arith, place)) at

drop_from : (p i k : ℕ) (js : List Entry) (e : Entry) → i ≡ p + k → slice_get (drop p js) k ≡ Some e → slice_get js i ≡ Some e
drop_from zero i k js e place at = let same : k ≡ i = omega (arith, place) in subst (λ n. slice_get js n ≡ Some e) same at
drop_from (suc p) i k [] e place at = absurd (none-some e at)
drop_from (suc p) zero k (j ∷ js) e place at = absurd (omega (arith, place))
drop_from (suc p) (suc i) k (j ∷ js) e place at = drop_from p i k js e (omega (arith, place)) at

take_at : (n i : ℕ) (js : List Entry) (e : Entry) → slice_get js i ≡ Some e → i < n → slice_get (take n js) i ≡ Some e
take_at n i [] e at lt = absurd (none-some e at)
take_at zero i (j ∷ js) e at lt = absurd (omega (arith, lt))
take_at (suc n) zero (j ∷ js) e at lt = at
take_at (suc n) (suc i) (j ∷ js) e at lt = take_at n i js e at (omega (arith, lt))

-- a journal may be the next one behind those in front of it
next_at : (before es : List Entry) (n : ℕ) (e : Entry) → AreNext before es → slice_get es n ≡ Some e → IsNext (history [] (before ++ take n es)) e.header
next_at before [] n e next at = absurd (none-some e at)
next_at before (x ∷ es) zero e next at =
    let same : x ≡ e = cc in
    subst (λ (l : List Entry). IsNext (history [] l) e.header) (sym (append-nil before)) (subst (λ (y : Entry). IsNext (history [] before) y.header) same next.0)
next_at before (x ∷ es) (suc n) e next at =
    subst (λ (l : List Entry). IsNext (history [] l) e.header) (append_assoc before (x ∷ []) (take n es)) (next_at (before ++ x ∷ []) es n e next.1 at)

-- ---- one record

record_kind : (k : Kind) → is_record k ≡ true → k ≡ kind.Content
record_kind kind.Content is = refl
record_kind kind.Genesis is = absurd (true≢false (sym is))
record_kind kind.Member is = absurd (true≢false (sym is))
record_kind kind.Time is = absurd (true≢false (sym is))
record_kind kind.Occult is = absurd (true≢false (sym is))
record_kind kind.ClueOccult is = absurd (true≢false (sym is))
record_kind kind.Purge is = absurd (true≢false (sym is))

is_so : (member number : ℕ) (e : Entry) → e.header.kind ≡ kind.Content → e.header.member ≡ member → e.header.a ≡ number → is_numbered member number e ≡ true
is_so member number e k m a = and_from _ _ (ap is_record k) (and_from _ _ (eq-eqb e.header.member member m) (eq-eqb e.header.a number a))

-- which record a kept number is
pub kept_record : (h : History) (member number n : ℕ) → numbered h member number ≡ Some n → IsKeptRecord h member number n
unfolding numbered
kept_record h member number n found = by_test (number == 0) found where
  by_test : (b : Bool) → cond b None (place_from (point h) (is_numbered member number) (drop (point h) (journals h))) ≡ Some n → IsKeptRecord h member number n
  by_test true is = absurd (none-some n is)
  by_test false is =
      let it = found_at (point h) n (is_numbered member number) (drop (point h) (journals h)) is in
      let parts = and_parts (is_record it.journal.header.kind) (it.journal.header.member == member && it.journal.header.a == number) it.so in
      let numbers = and_parts (it.journal.header.member == member) (it.journal.header.a == number) parts.1 in
      record {
        journal = it.journal;
        there = drop_from (point h) n it.index (journals h) it.journal it.place it.at;
        kept = omega (arith, it.place);
        kind_is = record_kind it.journal.header.kind parts.0;
        member_is = eqb-true it.journal.header.member member numbers.0;
        number_is = eqb-true it.journal.header.a number numbers.1;
      }

-- a kept record with a number is found, or a later one
pub some_numbered : (h : History) (member number n : ℕ) → 0 < number → IsKeptRecord h member number n → numbered h member number ≢ None
unfolding numbered
some_numbered h member number n some x = by_test (number == 0) refl where
  by_test : (b : Bool) → (number == 0) ≡ b → cond b None (place_from (point h) (is_numbered member number) (drop (point h) (journals h))) ≢ None
  by_test true e none = let zero_is : number ≡ 0 = eqb-true number 0 e in absurd (omega (arith, zero_is, some))
  by_test false e none =
      has_place (point h) (n - point h) (is_numbered member number) (drop (point h) (journals h)) x.journal
      (drop_at (point h) n (n - point h) (journals h) x.journal (omega (arith, x.kept)) x.there) (is_so member number x.journal x.kind_is x.member_is x.number_is) none

-- the rule of the next record
fresh_of : (h : History) (x : Header) (k : Kind) → x.kind ≡ k → k ≡ kind.Content → IsNextOf h x k → (let none : Option ℕ = None in numbered h x.member x.a ≡ none)
fresh_of h x kind.Content is content own = own.fresh
fresh_of h x kind.Genesis is content own = absurd cc
fresh_of h x kind.Member is content own = absurd cc
fresh_of h x kind.Time is content own = absurd cc
fresh_of h x kind.Occult is content own = absurd cc
fresh_of h x kind.ClueOccult is content own = absurd cc
fresh_of h x kind.Purge is content own = absurd cc

-- of two kept records with one number none is the earlier
not_both : (h : History) (member number i n : ℕ) → AreLawful (journals h) → 0 < number → IsKeptRecord h member number i → IsKeptRecord h member number n → i < n → ⊥
unfolding point
not_both h member number i n lawful some x y lt =
    let before = history [] (take n (journals h)) in
    let next = next_at [] (journals h) n y.journal lawful.next y.there in
    let fresh = fresh_of before y.journal.header y.journal.header.kind refl y.kind_is next.own in
    let points = two_points (take n (journals h)) (drop n (journals h)) in
    let split : greatest_point (take n (journals h) ++ drop n (journals h)) ≡ greatest_point (journals h) = ap greatest_point (take-append-drop n (journals h)) in
    some_numbered before member number i some
    (record {
      journal = x.journal;
      there = take_at n i (journals h) x.journal x.there lt;
      kept = omega (arith, points, split, x.kept);
      kind_is = x.kind_is;
      member_is = x.member_is;
      number_is = x.number_is;
    })
    (sym (ap (λ m. numbered before m y.journal.header.a) y.member_is ∙ ap (numbered before member) y.number_is) ∙ fresh)

-- a kept record with a number is the one that is found
pub numbered_as : (h : History) (member number n : ℕ) → AreLawful (journals h) → 0 < number → IsKeptRecord h member number n → numbered h member number ≡ Some n
numbered_as h member number n lawful some x = by_found (numbered h member number) refl where
  same_place : (k : ℕ) → IsKeptRecord h member number k → k ≡ n
  same_place k y =
      elim (nat_lt k n) as (λ v. nat_lt k n ≡ v → k ≡ n) [
        | true ↦ λ e. absurd (not_both h member number k n lawful some y x (ltb-true k n e))
        | false ↦ λ e. elim (nat_lt n k) as (λ v. nat_lt n k ≡ v → k ≡ n) [
          | true ↦ λ f. absurd (not_both h member number n k lawful some x y (ltb-true n k f))
          | false ↦ λ f. omega (arith, ltb-false k n e, ltb-false n k f)
        ] refl
      ] refl

  by_found : (found : Option ℕ) → numbered h member number ≡ found → found ≡ Some n
  by_found None is = absurd (some_numbered h member number n some x is)
  by_found (Some k) is = ap Some (same_place k (kept_record h member number k is))

-- ---- repeats

repeat_by : (h : History) (request : Digest) (n : ℕ) → request.0 ≡ link_at h n → repeated_by h request (Some n) ≡ Some n
repeat_by h request n same = ap (λ b. cond b (Some n) None) ((bytes_eq-Decides request.0 (link_at h n)).1 same)

pub repeat_is : (h : History) (member number : ℕ) (request : Digest) (n : ℕ) → numbered h member number ≡ Some n → request.0 ≡ link_at h n → repeated h member number request ≡ Some n
unfolding repeated
repeat_is h member number request n found same = ap (repeated_by h request) found ∙ repeat_by h request n same

-- a repeat's number isn't taken
free_by : (h : History) (request : Digest) (found : Option ℕ) (n : ℕ) → repeated_by h request found ≡ Some n → (let none : Option Refusal = None in taken_by h request found ≡ none)
free_by h request None n is = refl
free_by h request (Some m) n is = by_test (bytes_eq request.0 (link_at h m)) is where
  by_test : (b : Bool) → cond b (Some m) None ≡ Some n → (let none : Option Refusal = None in cond b None (Some (NumberTaken m)) ≡ none)
  by_test true it = refl
  by_test false it = absurd (none-some n it)

free_number : (h : History) (member number : ℕ) (request : Digest) (n : ℕ) → repeated h member number request ≡ Some n → (let none : Option Refusal = None in number_taken h member number request ≡ none)
unfolding repeated number_taken
free_number h member number request n is = free_by h request (numbered h member number) n is

no_more : (a b : Option Refusal) → first_refusal (a ∷ b ∷ None ∷ None ∷ None ∷ []) ≡ first_refusal (a ∷ b ∷ [])
no_more (Some x) b = refl
no_more None (Some x) = refl
no_more None None = refl

-- a repeat is refused for who asks alone
pub repeat_refused : (h : History) (member : ℕ) (clue : Digest) (content : List ℕ) (content_digest request : Digest) (by : Approval) (who : Digest) (number n : ℕ) → repeated h member number request ≡ Some n
    → own_refusal real_limits h (Append member clue content content_digest request by who number) ≡ who_refusal h member by.key
repeat_refused h member clue content content_digest request by who number n is =
    let unknown = unknown_in (keys h) member in
    let wrong = wrong_key_in (keys h) member by.key in
    let full = fullness real_limits h in
    let clues = clues_full real_limits h clue in
    let again = repeated h member number request in
    ap (λ taken. first_refusal (unknown ∷ wrong ∷ taken ∷ unless_repeated again full ∷ unless_repeated again clues ∷ [])) (free_number h member number request n is)
    ∙ ap (λ r. first_refusal (unknown ∷ wrong ∷ None ∷ unless_repeated r full ∷ unless_repeated r clues ∷ [])) is
    ∙ no_more unknown wrong

-- a repeat changes nothing
settled_same : (h : History) → IsLawful h → cond (nat_le BLOCK_LIMIT (length h.waiting)) (close h) h ≡ h
settled_same h l = ap (λ full. cond full (close h) h) (lt-leb BLOCK_LIMIT (length h.waiting) l.waiting_is.room)

pub repeat_same : (h : History) (step : Step) (member : ℕ) (clue : Digest) (content : List ℕ) (content_digest request : Digest) (by : Approval) (who : Digest) (number n : ℕ) → IsLawful h → repeated h member number request ≡ Some n
    → after_job h step (Append member clue content content_digest request by who number) ≡ h
unfolding after_job with_job
repeat_same h step member clue content content_digest request by who number n l is =
    let job = Append member clue content content_digest request by who number in
    let refusal = own_refusal real_limits h job in
    let journal = append_journal h member clue content content_digest request by who number in
    ap (λ r. settled_history job (after_judgement refusal (unless_repeated r (Some journal)) h)) is
    ∙ ap (settled_history job) (unplaced refusal h)
    ∙ settled_same h l

-- a repeat is told the receipt of the record that it repeats
pub repeat_told : (h : History) (step : Step) (member : ℕ) (clue : Digest) (content : List ℕ) (content_digest request : Digest) (by : Approval) (who : Digest) (number n : ℕ) → repeated h member number request ≡ Some n
    → (let none : Option Refusal = None in who_refusal h member by.key ≡ none) → answer_to h step (Append member clue content content_digest request by who number) ≡ Receipt n (digest (leaf_at h n)) None
unfolding answer_to outcome
repeat_told h step member clue content content_digest request by who number n is none =
    let job = Append member clue content content_digest request by who number in
    let journal = append_journal h member clue content content_digest request by who number in
    ap (λ refusal. answer_for h step (judged_outcome refusal (record_outcome h (repeated h member number request) journal))) (repeat_refused h member clue content content_digest request by who number n is ∙ none)
    ∙ ap (λ r. answer_for h step (record_outcome h r journal)) is

-- another request with the number is refused
taken_row : (a b d e : Option Refusal) (taken : Refusal) → (let none : Option Refusal = None in first_refusal (a ∷ b ∷ []) ≡ none) → first_refusal (a ∷ b ∷ Some taken ∷ d ∷ e ∷ []) ≡ Some taken
taken_row (Some x) b d e taken none = absurd cc
taken_row None (Some x) d e taken none = absurd cc
taken_row None None d e taken none = refl

other_taken : (h : History) (member number : ℕ) (request : Digest) (n : ℕ) → numbered h member number ≡ Some n → request.0 ≢ link_at h n → number_taken h member number request ≡ Some (NumberTaken n)
unfolding number_taken
other_taken h member number request n found other =
    ap (taken_by h request) found
    ∙ ap (λ b. cond b None (Some (NumberTaken n))) (false_from_ne_true (bytes_eq request.0 (link_at h n)) (λ same. other ((bytes_eq-Decides request.0 (link_at h n)).0 same)))

pub taken_refused : (h : History) (member : ℕ) (clue : Digest) (content : List ℕ) (content_digest request : Digest) (by : Approval) (who : Digest) (number n : ℕ) → numbered h member number ≡ Some n → request.0 ≢ link_at h n
    → (let none : Option Refusal = None in who_refusal h member by.key ≡ none) → own_refusal real_limits h (Append member clue content content_digest request by who number) ≡ Some (NumberTaken n)
taken_refused h member clue content content_digest request by who number n found other none =
    let again = repeated h member number request in
    let full = unless_repeated again (fullness real_limits h) in
    let clues = unless_repeated again (clues_full real_limits h clue) in
    ap (λ taken. first_refusal (unknown_in (keys h) member ∷ wrong_key_in (keys h) member by.key ∷ taken ∷ full ∷ clues ∷ [])) (other_taken h member number request n found other)
    ∙ taken_row (unknown_in (keys h) member) (wrong_key_in (keys h) member by.key) full clues (NumberTaken n) none

-- ---- once placed

-- journals are there, whether or not the open block ended behind them
settled_journals : (h : History) (job : Job) → journals (settled_history job h) ≡ journals h
settled_journals h job = elim (closes_after job || nat_le BLOCK_LIMIT (length h.waiting)) as (λ v. journals (cond v (close h) h) ≡ journals h) [ true ↦ journals_close h | false ↦ refl ]

placed_there : (h : History) (step : Step) (member : ℕ) (clue : Digest) (content : List ℕ) (content_digest request : Digest) (by : Approval) (who : Digest) (number : ℕ)
    → (let none : Option Refusal = None in own_refusal real_limits h (Append member clue content content_digest request by who number) ≡ none) → (let none : Option ℕ = None in repeated h member number request ≡ none)
    → journals (after_job h step (Append member clue content content_digest request by who number)) ≡ journals h ++ append_journal h member clue content content_digest request by who number ∷ []
unfolding after_job with_job
placed_there h step member clue content content_digest request by who number accepted new =
    let job = Append member clue content content_digest request by who number in
    let journal = append_journal h member clue content content_digest request by who number in
    settled_journals (with_job real_limits (stamp_of step) h job) job
    ∙ ap (λ refusal. journals (after_judgement refusal (unless_repeated (repeated h member number request) (Some journal)) h)) accepted
    ∙ ap (λ r. journals (with_waiting (unless_repeated r (Some journal)) h)) new
    ∙ sym (append_assoc (journals_of h.closed) h.waiting (journal ∷ []))

last_at : (h g : History) (journal : Entry) → journals g ≡ journals h ++ journal ∷ [] → slice_get (journals g) (size h) ≡ Some journal
last_at h g journal are = ap (λ js. slice_get js (size h)) are ∙ slice_get-last (journals h) journal

link_there : (g : History) (n : ℕ) (journal : Entry) → slice_get (journals g) n ≡ Some journal → link_at g n ≡ journal.header.link.0
link_there g n journal at =
    get_or_from_slice_get (map (λ (e : Entry). e.header.link.0) (journals g)) n journal.header.link.0 []
    (slice_get-map (λ (e : Entry). e.header.link.0) (journals g) n ∙ ap (option_map (λ (e : Entry). e.header.link.0)) at)

pub placed_repeated : (h : History) (step : Step) (member : ℕ) (clue : Digest) (content : List ℕ) (content_digest request : Digest) (by : Approval) (who : Digest) (number : ℕ) → IsLawful h → 0 < number
    → fits_job (Append member clue content content_digest request by who number) ≡ true
    → (let none : Option Refusal = None in own_refusal real_limits h (Append member clue content content_digest request by who number) ≡ none) → (let none : Option ℕ = None in repeated h member number request ≡ none)
    → repeated (after_job h step (Append member clue content content_digest request by who number)) member number request ≡ Some (size h)
unfolding append_header point
placed_repeated h step member clue content content_digest request by who number l some fits accepted new =
    let job = Append member clue content content_digest request by who number in
    let journal = append_journal h member clue content content_digest request by who number in
    let g = after_job h step job in
    let lawful : IsLawful g = job_lawful h step job fits l in
    let are = placed_there h step member clue content content_digest request by who number accepted new in
    let at : slice_get (journals g) (size h) ≡ Some journal = last_at h g journal are in
    let longer : size g ≡ size h + 1 = ap length are ∙ length-append (journals h) (journal ∷ []) in
    let below : point g < size g = point_below (size g) 0 0 (journals g) (lawful_from (journals g) lawful.journals_are) (omega arith) (omega (arith, some_journal (journals g) lawful.journals_are)) in
    let kept : IsKeptRecord g member number (size h) = record { journal = journal; there = at; kept = omega (arith, below, longer); kind_is = refl; member_is = refl; number_is = refl } in
    repeat_is g member number request (size h) (numbered_as g member number (size h) lawful.journals_are some kept) (sym (link_there g (size h) journal at))
