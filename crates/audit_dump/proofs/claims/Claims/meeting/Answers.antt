use Rattle.std.specs.List.Sorted.{IsNonDecreasingBy}
use Rattle.std.proofs.Common.{List, None, refl, rules, subst, sym}
use Rattle.std.proofs.lemmas.List.Sorted.{IsNonDecreasingBy-from_sort_by_key}
use Rattle.audit_dump.specs.declared.claims.Claim.{Claim}
use Rattle.audit_dump.proofs.Meetings.{parted_first}
use Rattle.audit_dump.proofs.claims.Claims.meeting.Goals as goal

pub returns : goal.returns
returns c =
    let sorted = IsNonDecreasingBy-from_sort_by_key (λ (o : Claim). o.index) _ c.sort_unstable_by_key.ensures.sorted (λ a r q k. search rules) in
    parted_first c.args.self.now (record { rest = c.as_slice.result; least = None }) (search rules) (subst (λ (t : List Claim). IsNonDecreasingBy (λ o. o.index) t) (sym c.as_slice.ensures.value) sorted) refl
