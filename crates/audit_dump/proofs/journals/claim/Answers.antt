use Rattle.std.proofs.Common.{◌≡◌, ◌++◌, ◌∷◌, [], List, ℕ, true, false, Some, length-append, sym, ap, subst, arith, ◌∙◌}
use Rattle.std.proofs.lemmas.List.{length-map}
use Rattle.journal_record.specs.declared.header.Header.{Header}
use Rattle.member_book.specs.Erasures.{is_time}
use Rattle.audit_dump.specs.Claims.{claim_by, claims_of}
use Rattle.audit_dump.specs.Known.{journal_of, journals_of}
use Rattle.audit_dump.specs.declared.claims.Claim.{Claim}
use Rattle.audit_dump.specs.Journals.{IsRootKnown}
use Rattle.audit_dump.proofs.Noted.{claims_same, claims_more, next_is}
use Rattle.audit_dump.proofs.journals.claim.Goals as goal

pub returns-then-not-tells_time : goal.returns-then-not-tells_time
returns-then-not-tells_time c start items item same stands next order are =
    let off : is_time item.header.kind ≡ false = ap (λ (x : Header). is_time x.kind) same ∙ sym c.tells_time.ensures ∙ c.if-not-tells_time.true in
    are ∙ claims_same c.args.id.now.0 start items item order off

pub returns : goal.returns
returns c start items item same stands next order are =
    let on : is_time item.header.kind ≡ true = ap (λ (x : Header). is_time x.kind) same ∙ sym c.tells_time.ensures ∙ c.if-not-tells_time.false in
    let jsn : item.header.jsn ≡ c.args.header.now.jsn = ap (λ (x : Header). x.jsn) same in
    let more = items ++ item ∷ [] in
    let known = rw c.in-Some.is at c.root_in_front.ensures in
    let root = known start more stands (omega (arith, jsn, next_is start items item next)) (omega (arith, jsn, next_is start items item next, length-map more journal_of, length-append items (item ∷ []))) (omega (arith, length-append items (item ∷ []))) in
    c.in_ok-add.ensures.ok ∙ ap (λ (cs : List Claim). cs ++ claim_by c.args.id.now.0 c.in-Some.root.0 c.args.header.now ∷ []) are
    ∙ ap (λ (x : Header). claims_of c.args.id.now.0 start items ++ claim_by c.args.id.now.0 c.in-Some.root.0 x ∷ []) (sym same)
    ∙ claims_more c.args.id.now.0 start items item order on c.in-Some.root (subst (λ (p : ℕ). IsRootKnown start (journals_of more) p (Some c.in-Some.root)) (sym jsn) root)
