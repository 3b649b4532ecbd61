-- What of the journals and blocks of a history depends on headers alone, and on the content of journal 0.
use Rattle.std.specs.List.{list_all}
use Rattle.std.specs.Prelude.{All, Bool, false}
use Rattle.std.proofs.Common.{◌≡◌, ℕ, ◌&&◌, List, [], ◌∷◌, refl, sym, ◌∙◌, ap, arith}
use Rattle.std.proofs.lemmas.List.Elements.{All-nil, All-cons, All-head, All-tail}
use Rattle.journal_record.specs.Entry.{Entry, content_digest_of}
use Rattle.journal_record.specs.declared.header.Header.{Header}
use Rattle.ledger_model.specs.Lawful as lawful
use Rattle.ledger_model.specs.Lawful.{AreLawful, IsFounded, gathers}
use Rattle.ledger_open.specs.Standing.{AllKept, SameButHidden}
use Rattle.ledger_open.proofs.LikeLaws.{count_kept, first_number}

module _ (hid gone : ℕ → Bool) where
  pub founded_kept : (es fs : List Entry) → AllKept hid gone es fs → hid 0 ≡ false → AreLawful es → IsFounded fs
  founded_kept [] fs a s l = absurd l.founded
  founded_kept (e ∷ es) [] a s l = absurd a
  founded_kept (e ∷ es) (f ∷ fs) a s l =
      ap (λ (x : Header). x.content_digest.0) a.0.header ∙ l.founded ∙ ap content_digest_of (sym (a.0.shown (ap hid (first_number (e ∷ es) l e es refl) ∙ s)))

  -- ---- blocks

  gather_same : (es fs : List Entry) → AllKept hid gone es fs → list_all (λ (e : Entry). gathers e.header.kind) es ≡ list_all (λ (e : Entry). gathers e.header.kind) fs
  gather_same [] [] a = refl
  gather_same [] (f ∷ fs) a = absurd a
  gather_same (e ∷ es) [] a = absurd a
  gather_same (e ∷ es) (f ∷ fs) a =
      ap (λ (h : Header). gathers h.kind && list_all (λ (x : Entry). gathers x.header.kind) es) (sym a.0.header) ∙ ap (λ (v : Bool). gathers f.header.kind && v) (gather_same es fs a.1)

  block_kept : (b c : List Entry) → AllKept hid gone b c → lawful.IsBlock b → lawful.IsBlock c
  block_kept b c a x = record {
    some = omega (arith, x.some, count_kept hid gone b c a);
    most = omega (arith, x.most, count_kept hid gone b c a);
    gathered = λ more. sym (gather_same b c a) ∙ x.gathered (λ one. more (sym (count_kept hid gone b c a) ∙ one));
  }

  pub blocks_kept : (bs cs : List (List Entry)) → SameButHidden hid gone bs cs → All lawful.IsBlock bs → All lawful.IsBlock cs
  blocks_kept [] [] s all = All-nil lawful.IsBlock
  blocks_kept [] (c ∷ cs) s all = absurd s
  blocks_kept (b ∷ bs) [] s all = absurd s
  blocks_kept (b ∷ bs) (c ∷ cs) s all = All-cons lawful.IsBlock c cs (block_kept b c s.0 (All-head lawful.IsBlock b bs all)) (blocks_kept bs cs s.1 (All-tail lawful.IsBlock b bs all))
