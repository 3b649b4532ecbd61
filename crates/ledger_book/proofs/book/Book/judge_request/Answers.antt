use Rattle.std.proofs.Common.{◌≡◌, ◌≤◌, [], ◌∷◌, None, Some, ap, sym, ◌∙◌, arith}
use Rattle.std.proofs.lemmas.Bool.{true≢false}
use Rattle.std.proofs.lemmas.Slice.Eq.{bytes_eq-Decides}
use Rattle.ledger_bytes.specs.declared.refusal.Refusal.TheVariants.{NumberTaken}
use Rattle.ledger_model.specs.Judgements.{unknown_in, wrong_key_in}
use Rattle.ledger_model.specs.Numbers.{numbered, number_taken, link_at}
use Rattle.member_book.specs.Erasures.{first_refusal}
use Rattle.ledger_model.specs.Members.{members, keys}
use Rattle.ledger_model.proofs.RepeatLaws.{numbered_within}
use Rattle.ledger_book.proofs.StandsLaws.{point_is}
use Rattle.ledger_book.proofs.JudgeLaws.{first_one, passed_before, refused_before}
use Rattle.ledger_book.proofs.MemberLaws.{known_keys}
use Rattle.ledger_book.proofs.NumberedLaws.{told_stands, taken_none, repeated_none, taken_same, repeated_same, taken_other}
use Rattle.ledger_book.proofs.book.Book.judge_request.Goals as goal

pub returns-in-Some-clause-refused : goal.returns-in-Some-clause-refused
returns-in-Some-clause-refused c = λ h s.
    let k = c.args.self.now in
    let member = c.args.member in
    let shown = c.args.by.now.key in
    let known = unknown_in (keys h) member ∷ wrong_key_in (keys h) member shown ∷ [] in
    let told : c.key_refusal.result ≡ first_refusal known =
    c.key_refusal.ensures ∙ ap (λ ks. first_refusal (unknown_in ks member ∷ wrong_key_in ks member shown ∷ [])) (known_keys k.floor k.members (members h) s.stands.members) in
    refused_before known (number_taken h member c.args.number c.args.request.now ∷ []) c.in-Some.refusal (sym c.in-Some.is ∙ told)

pub returns-in_default-numbered-clause-passed : goal.returns-in_default-numbered-clause-passed
returns-in_default-numbered-clause-passed c = λ h s.
    let k = c.args.self.now in
    let member = c.args.member in
    let shown = c.args.by.now.key in
    let known = unknown_in (keys h) member ∷ wrong_key_in (keys h) member shown ∷ [] in
    let told : c.key_refusal.result ≡ first_refusal known =
    c.key_refusal.ensures ∙ ap (λ ks. first_refusal (unknown_in ks member ∷ wrong_key_in ks member shown ∷ [])) (known_keys k.floor k.members (members h) s.stands.members) in
    let taken = number_taken h member c.args.number c.args.request.now in
    let none = sym (told_stands k h member c.args.number s) ∙ (sym c.numbered.ensures ∙ c.in_default-numbered.is) in
    sym (passed_before known (taken ∷ []) None (sym c.in_default.is ∙ told) (sym (taken_none h member c.args.number c.args.request.now none) ∙ first_one taken))

pub returns-in_default-numbered-clause-again : goal.returns-in_default-numbered-clause-again
returns-in_default-numbered-clause-again c = λ h s.
    sym (repeated_none h c.args.member c.args.number c.args.request.now (sym (told_stands c.args.self.now h c.args.member c.args.number s) ∙ (sym c.numbered.ensures ∙ c.in_default-numbered.is)))

pub returns-then-eq-clause-passed : goal.returns-then-eq-clause-passed
returns-then-eq-clause-passed c = λ h s.
    let k = c.args.self.now in
    let member = c.args.member in
    let request = c.args.request.now in
    let shown = c.args.by.now.key in
    let jsn = c.in-Some-numbered.jsn in
    let known = unknown_in (keys h) member ∷ wrong_key_in (keys h) member shown ∷ [] in
    let told : c.key_refusal.result ≡ first_refusal known =
    c.key_refusal.ensures ∙ ap (λ ks. first_refusal (unknown_in ks member ∷ wrong_key_in ks member shown ∷ [])) (known_keys k.floor k.members (members h) s.stands.members) in
    let taken = number_taken h member c.args.number request in
    let found : numbered h member c.args.number ≡ Some jsn = sym (told_stands k h member c.args.number s) ∙ (sym c.numbered.ensures ∙ c.in-Some-numbered.is) in
    let within = numbered_within h member c.args.number jsn found in
    let low : k.floor ≤ jsn = omega (arith, s.seen, point_is k h s, within.0) in
    let same : request.0 ≡ link_at h jsn = (bytes_eq-Decides request.0 c.link_of.result.0).0 (sym c.eq.ensures ∙ c.if-eq.true) ∙ c.link_of.ensures h s low within.1 in
    sym (passed_before known (taken ∷ []) None (sym c.in_default.is ∙ told) (sym (taken_same h member c.args.number request jsn found same) ∙ first_one taken))

pub returns-then-eq-clause-again : goal.returns-then-eq-clause-again
returns-then-eq-clause-again c = λ h s.
    let k = c.args.self.now in
    let member = c.args.member in
    let request = c.args.request.now in
    let jsn = c.in-Some-numbered.jsn in
    let found : numbered h member c.args.number ≡ Some jsn = sym (told_stands k h member c.args.number s) ∙ (sym c.numbered.ensures ∙ c.in-Some-numbered.is) in
    let within = numbered_within h member c.args.number jsn found in
    let low : k.floor ≤ jsn = omega (arith, s.seen, point_is k h s, within.0) in
    let same : request.0 ≡ link_at h jsn = (bytes_eq-Decides request.0 c.link_of.result.0).0 (sym c.eq.ensures ∙ c.if-eq.true) ∙ c.link_of.ensures h s low within.1 in
    sym (repeated_same h member c.args.number request jsn found same)

pub returns-clause-refused : goal.returns-clause-refused
returns-clause-refused c = λ h s.
    let k = c.args.self.now in
    let member = c.args.member in
    let request = c.args.request.now in
    let shown = c.args.by.now.key in
    let jsn = c.in-Some-numbered.jsn in
    let known = unknown_in (keys h) member ∷ wrong_key_in (keys h) member shown ∷ [] in
    let told : c.key_refusal.result ≡ first_refusal known =
    c.key_refusal.ensures ∙ ap (λ ks. first_refusal (unknown_in ks member ∷ wrong_key_in ks member shown ∷ [])) (known_keys k.floor k.members (members h) s.stands.members) in
    let taken = number_taken h member c.args.number request in
    let found : numbered h member c.args.number ≡ Some jsn = sym (told_stands k h member c.args.number s) ∙ (sym c.numbered.ensures ∙ c.in-Some-numbered.is) in
    let within = numbered_within h member c.args.number jsn found in
    let low : k.floor ≤ jsn = omega (arith, s.seen, point_is k h s, within.0) in
    let link : c.link_of.result.0 ≡ link_at h jsn = c.link_of.ensures h s low within.1 in
    passed_before known (taken ∷ []) (Some (NumberTaken jsn)) (sym c.in_default.is ∙ told)
    (sym (taken_other h member c.args.number request jsn found (λ same. true≢false (sym ((bytes_eq-Decides request.0 c.link_of.result.0).1 (same ∙ sym link)) ∙ (sym c.eq.ensures ∙ c.if-eq.false)))) ∙ first_one taken)
