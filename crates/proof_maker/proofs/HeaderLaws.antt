-- The header of a kept time journal, as a book keeps it.
use Rattle.std.proofs.Common.{◌≡◌, ℕ, ◌<◌, ◌≤◌, cond, Option, Some, None, sym, ap, ◌∙◌, subst, arith}
use Rattle.std.specs.Prelude.{nat_le, slice_get, option_map, IsTrue}
use Rattle.std.proofs.lemmas.Bool.{le-leb, ltb-true}
use Rattle.std.proofs.lemmas.Option.{slice_get-map, slice_get_within, get_or_from_slice_get}
use Rattle.journal_record.specs.Entry.{Entry}
use Rattle.journal_record.specs.Rules.{IsHeader, jsn_ok}
use Rattle.journal_record.specs.declared.header.Header.{Header}
use Rattle.journal_record.specs.declared.header.Kind.{Kind}
use Rattle.journal_record.specs.declared.header.Kind.TheVariants as kind
use Rattle.ledger_model.specs.Bounds.{IsKeptTime}
use Rattle.ledger_model.specs.History as model
use Rattle.ledger_model.specs.History.{History, journals}
use Rattle.ledger_model.specs.Lawful.{AreLawful}
use Rattle.ledger_model.proofs.LawfulLaws.{lawful_from, from_layout}
use Rattle.ledger_book.specs.Books.{Kept, Serves, headers}
use Rattle.ledger_book.proofs.StandsLaws.{point_is}
use Rattle.proof_maker.specs.Parts.{IsAt}

-- each journal of a lawful history obeys its layout
pub layout_at : (h : History) (n : ℕ) (e : Entry) → AreLawful (journals h) → slice_get (journals h) n ≡ Some e → IsHeader e.header
layout_at h n e lawful there =
    let each = from_layout 0 (journals h) (lawful_from (journals h) lawful) n e (slice_get_within (journals h) n e there) in
    subst (λ (x : Entry). IsHeader x.header) (get_or_from_slice_get (journals h) n e e there) each

-- a time journal isn't the first
pub not_first : (h : History) (n : ℕ) (e : Entry) → AreLawful (journals h) → slice_get (journals h) n ≡ Some e → e.header.kind ≡ kind.Time → 0 < e.header.jsn
not_first h n e lawful there time = ltb-true 0 e.header.jsn (subst (λ (k : Kind). IsTrue (jsn_ok k e.header.jsn)) time (layout_at h n e lawful there).jsn)

module _ (k : Kept) (h : History) (s : Serves k h) (e : Entry) (kept : IsKeptTime h e) where
  pub above : k.floor ≤ e.header.jsn
  above = omega (arith, s.seen, point_is k h s, kept.kept)

  pub within : e.header.jsn < model.size h
  within = slice_get_within (journals h) e.header.jsn e kept.place

  pub after_first : 0 < e.header.jsn
  after_first = not_first h e.header.jsn e s.stands.lawful kept.place kept.time

  pub header_rules : IsHeader e.header
  header_rules = layout_at h e.header.jsn e s.stands.lawful kept.place

module _ (k : Kept) (h : History) (s : Serves k h) (jsn : ℕ) (e : Entry) (at : IsAt h jsn e) where
  -- the header that a book tells
  pub kept_header : (found : Option Header) → found ≡ cond (nat_le k.floor jsn) (slice_get (headers h) jsn) None → found ≡ Some e.header
  kept_header found told =
      told ∙ ap (λ v. cond v (slice_get (headers h) jsn) None) (le-leb k.floor jsn (omega (arith, above k h s e at.kept, at.number)))
      ∙ slice_get-map (λ (j : Entry). j.header) (journals h) jsn
      ∙ ap (option_map (λ (j : Entry). j.header)) (ap (slice_get (journals h)) (sym at.number) ∙ at.kept.place)

  pub at_rules : IsHeader e.header
  at_rules = header_rules k h s e at.kept

pub never_none : {A : Type 0} (x : A) (B : Type 0) → (let none : Option A = None in none ≡ Some x) → B
never_none x B e = absurd cc
