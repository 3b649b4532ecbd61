-- What is known of a ledger that was opened is what each history says that its pair stood for.
use Rattle.std.specs.Prelude.{Bool, true, false, Option, Some, None, ⊤}
use Rattle.std.proofs.Common.{◌≡◌, inl, inr, ℕ, ◌+◌, ◌≤◌, List, [], ◌∷◌, length, ap, sym, subst, ◌∙◌, arith}
use Rattle.block_file.specs.Head.{version_in}
use Rattle.journal_record.specs.Entry.{Entry}
use Rattle.ledger_book.proofs.BaseLaws.{some_point}
use Rattle.ledger_book.proofs.StandsLaws.{point_is}
use Rattle.ledger_disk.specs.Disk.{State}
use Rattle.ledger_model.specs.Bases.{base_of}
use Rattle.ledger_model.specs.History.{History, journals_of, point, greatest_point}
use Rattle.ledger_model.specs.Targets.{is_hidden}
use Rattle.ledger_open.specs.Cutting.{gate_behind}
use Rattle.ledger_open.specs.Erasing.{EndsAs}
use Rattle.ledger_open.specs.Opening.{Known, GoesOn}
use Rattle.ledger_open.specs.Places.{places_from}
use Rattle.ledger_open.specs.Reopened.{Remembers, IsReopened, IsTidyAt, OpenFile}
use Rattle.ledger_open.specs.Standing.{Floor, floor_of, floor_from, floor_behind, IsErased, IsClean, PairFor, IsCleanPair}
use Rattle.ledger_open.specs.Starts.{IsDecoded}
use Rattle.ledger_open.proofs.PartLaws.{none_gone}
use Rattle.ledger_open.proofs.PlaceLaws.{after_kept, places_kept}
use Rattle.ledger_open.proofs.CarryLaws.{pair_goes, reopened_for, reopened_tidy}
use Rattle.pseudo_genesis.specs.declared.base.Base.{Base}
use Rattle.twin_file.specs.Twin.{open_of, other_of}

-- ---- where the file begins

-- a base isn't at journal 0
abbrev IsLate : Option Base → Type 0
IsLate None = ⊤
IsLate (Some b) = 1 ≤ b.point

late_decoded : (start : Option Base) → IsDecoded start → IsLate start
late_decoded None d = tt
late_decoded (Some b) d = omega (arith, some_point b d.0)

floor_at : (h : History) (b : Base) (gone : List (List Entry)) → length (journals_of gone) ≡ b.point → 1 ≤ b.point → base_of h b.point ≡ b → floor_behind h gone ≡ floor_of b
floor_at h b [] at low base = absurd (omega (arith, at, low))
floor_at h b (g ∷ gs) at low base = ap (λ (n : ℕ). floor_of (base_of h n)) at ∙ ap floor_of base

floor_goes : (start : Option Base) (blocks : List (List Entry)) (h : History) (g : GoesOn start blocks h) → IsLate start → floor_behind h g.parts.gone ≡ floor_from start
floor_goes None blocks h g late = ap (floor_behind h) (none_gone h g.lawful.blocks_are g.parts)
floor_goes (Some b) blocks h g late = floor_at h b g.parts.gone g.parts.at late g.base

-- ---- a ledger that was opened

-- what is known is what this history says, whose file begins at the point and has all that is hidden gone
pub record IsOpenEnd (k : Known) (in_a : Bool) (a b : State) (h : History) : Type 0 where
  pub ends : EndsAs k.book k.places h
  pub floor : k.book.floor ≡ point h
  pub tail : k.gate ≡ gate_behind (floor_behind h ends.parts.gone) ends.parts.kept
  pub erased : IsErased (open_of in_a a b).seen h
  pub newer : version_in (open_of in_a a b).seen ≡ 2

-- the file that isn't empty is the one that is clean
clean_side : (in_a : Bool) (place : ℕ) (a b : State) (h : History) → IsTidyAt in_a place a b → IsCleanPair a.seen b.seen h → IsErased (open_of in_a a b).seen h × (version_in (open_of in_a a b).seen ≡ 2)
clean_side true place a b h t c = by c.in_a c.clean c.newer c.empty where
  by : (v : Bool) → IsClean (open_of v a.seen b.seen) h → version_in (open_of v a.seen b.seen) ≡ 2 → length (other_of v a.seen b.seen) ≡ 0 → IsErased a.seen h × (version_in a.seen ≡ 2)
  by true x newer none = (x.erased, newer)
  by false x newer none = absurd (omega (arith, none, t.ends))
clean_side false place a b h t c = by c.in_a c.clean c.newer c.empty where
  by : (v : Bool) → IsClean (open_of v a.seen b.seen) h → version_in (open_of v a.seen b.seen) ≡ 2 → length (other_of v a.seen b.seen) ≡ 0 → IsErased b.seen h × (version_in b.seen ≡ 2)
  by true x newer none = absurd (omega (arith, none, t.ends))
  by false x newer none = (x.erased, newer)

module _ (k : Known) (in_a : Bool) (start : Option Base) (blocks : List (List Entry)) (a b a_new b_new : State) (m : Remembers k start blocks) (r : IsReopened in_a k start blocks a b a_new b_new) (h : History) (p : PairFor a.seen b.seen h) where
  was : GoesOn r.mended.was.start r.mended.was.blocks h
  was = pair_goes k in_a start blocks a b a_new b_new r h p

  goes : GoesOn start blocks h
  goes = r.mended.goes h was

  -- the point was read
  point_read : greatest_point (journals_of r.mended.was.blocks) ≡ point h
  point_read =
      let serves = r.mended.read.knows.serves h was in
      sym r.mended.read.knows.point ∙ point_is r.mended.read.known.book h serves

  begins : ((floor_from start).first ≡ point h) × IsLate start
  begins = elim r.mended.left [
    | inl s ↦
        let same : start ≡ r.mended.was.start = ap (λ (f : OpenFile). f.start) s.same in
        (ap (λ (t : Option Base). (floor_from t).first) same ∙ sym s.at_point ∙ point_read, subst IsLate (sym same) (late_decoded r.mended.was.start r.mended.read.knows.base))
    | inr s ↦
        (ap (λ (t : Option Base). (floor_from t).first) s.start_is ∙ s.point ∙ point_read, subst IsLate (sym s.start_is) (omega (arith, s.before)))
  ]

  side : IsErased (open_of in_a a_new b_new).seen h × (version_in (open_of in_a a_new b_new).seen ≡ 2)
  side = clean_side in_a k.gate a_new b_new h (reopened_tidy k in_a start blocks a b a_new b_new r m) (reopened_for k in_a start blocks a b a_new b_new r h p)

  pub opened_ends : IsOpenEnd k in_a a_new b_new h
  opened_ends =
      let g = goes in
      let from = floor_from start in
      let floor : floor_behind h g.parts.gone ≡ from = floor_goes start blocks h g begins.1 in
      let first = 64 + length from.base in record {
        ends = record {
          serves = r.mended.serves h was;
          begins = inl (m.floor ∙ begins.0);
          parts = record { gone = g.parts.gone; kept = g.parts.kept; are = g.parts.are; at = g.parts.at ∙ sym m.floor };
          places_are = m.places ∙ sym (places_kept (is_hidden h) (λ n. false) first g.parts.kept blocks g.same) ∙ ap (λ (f : Floor). places_from f g.parts.kept) (sym floor);
          none = g.none;
        };
        floor = m.floor ∙ begins.0;
        tail = m.tail ∙ sym (after_kept (is_hidden h) (λ n. false) first g.parts.kept blocks g.same) ∙ ap (λ (f : Floor). gate_behind f g.parts.kept) (sym floor);
        erased = side.0;
        newer = side.1;
      }
