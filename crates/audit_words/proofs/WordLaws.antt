-- What the auditor's command makes of its words.
use Rattle.std.proofs.Common.{◌≡◌, true, false, not, eqb, List, [], ◌∷◌, Option, Some, None, option_map, codes, refl, sym, ap, ap₂, ◌∙◌, inl, inr}
use Rattle.std.specs.Prelude.{Box}
use Rattle.std.specs.Box.{box_value}
use Rattle.std.specs.Str.{bytes_eq}
use Rattle.std.proofs.lemmas.Bool.{cases_Bool}
use Rattle.clap.specs.Kinds.{Kinds}
use Rattle.clap.specs.Lexer.{strip_byte}
use Rattle.clap.specs.Walk.{Row, Text, rows_of}
use Rattle.clap.specs.Matches.{first_value}
use Rattle.clap.specs.Simple.{subcommand_rows}
use Rattle.clap.specs.declared.parser.matches.Found.{Found}
use Rattle.clap.specs.declared.parser.matches.SubCommand.{SubCommand}
use Rattle.clap.specs.declared.parser.matches.ArgMatches.TheViews.{out-SubCommand}
use Rattle.clap.proofs.WalkLemmas.{first_value-rows}
use Rattle.clap.proofs.OnLiterals.{clap_on_literals}
use Rattle.audit_words.specs.Words.{Asked, asked_by, asked_from, found_by, found_in, dump_of, lineage_of, fault_by, script, dump, lineage, is_plain_word}

-- where there is no fault, what was found is asked for
pub asked_is : (kinds : Kinds) (found : Option Asked) → kinds ≡ [] → asked_from kinds found ≡ found
asked_is [] found none = refl
asked_is (kind ∷ kinds) found none = absurd cc

-- the word `script` alone
pub script_asked : asked_by (codes "script" ∷ []) ≡ Some script
unfolding clap_on_literals
script_asked = refl

-- a word that doesn't begin with a hyphen begins no flag
pub plain_strip : (w : Text) → is_plain_word w ≡ true → strip_byte 45 w ≡ None
plain_strip [] plain = refl
plain_strip (b ∷ w) plain = elim (cases_Bool (eqb b 45)) [
  | inl is ↦ absurd (let bad : not true ≡ true = sym (ap not is) ∙ plain in cc)
  | inr isnt ↦ rw isnt refl
]

pub plain_dashes : (w : Text) → is_plain_word w ≡ true → bytes_eq w (45 ∷ 45 ∷ []) ≡ false
plain_dashes [] plain = refl
plain_dashes (b ∷ w) plain = elim (cases_Bool (eqb b 45)) [
  | inl is ↦ absurd (let bad : not true ≡ true = sym (ap not is) ∙ plain in cc)
  | inr isnt ↦ rw isnt refl
]

module _ (a b c d e : Text) (a1 : strip_byte 45 a ≡ None) (b1 : strip_byte 45 b ≡ None) (c1 : strip_byte 45 c ≡ None) (d1 : strip_byte 45 d ≡ None) (e1 : strip_byte 45 e ≡ None)
    (a2 : bytes_eq a (45 ∷ 45 ∷ []) ≡ false) (b2 : bytes_eq b (45 ∷ 45 ∷ []) ≡ false) (c2 : bytes_eq c (45 ∷ 45 ∷ []) ≡ false) (d2 : bytes_eq d (45 ∷ 45 ∷ []) ≡ false) (e2 : bytes_eq e (45 ∷ 45 ∷ []) ≡ false) where
  dump_found : found_by (codes "dump" ∷ a ∷ b ∷ c ∷ d ∷ e ∷ []) ≡ Some (dump a b c d e)
  unfolding clap_on_literals
  dump_found = rw (a2, a1, a1, b2, b1, b1, c2, c1, c1, d2, d1, d1, e2, e1, e1) refl

  dump_fault : fault_by (codes "dump" ∷ a ∷ b ∷ c ∷ d ∷ e ∷ []) ≡ []
  unfolding clap_on_literals
  dump_fault = rw (a2, a1, a1, b2, b1, b1, c2, c1, c1, d2, d1, d1, e2, e1, e1) refl

  pub dump_asked : asked_by (codes "dump" ∷ a ∷ b ∷ c ∷ d ∷ e ∷ []) ≡ Some (dump a b c d e)
  dump_asked = asked_is _ _ dump_fault ∙ dump_found

module _ (a b c : Text) (a1 : strip_byte 45 a ≡ None) (b1 : strip_byte 45 b ≡ None) (c1 : strip_byte 45 c ≡ None)
    (a2 : bytes_eq a (45 ∷ 45 ∷ []) ≡ false) (b2 : bytes_eq b (45 ∷ 45 ∷ []) ≡ false) (c2 : bytes_eq c (45 ∷ 45 ∷ []) ≡ false) where
  lineage_found : found_by (codes "lineage" ∷ a ∷ b ∷ c ∷ []) ≡ Some (lineage a b c)
  unfolding clap_on_literals
  lineage_found = rw (a2, a1, a1, b2, b1, b1, c2, c1, c1) refl

  lineage_fault : fault_by (codes "lineage" ∷ a ∷ b ∷ c ∷ []) ≡ []
  unfolding clap_on_literals
  lineage_fault = rw (a2, a1, a1, b2, b1, b1, c2, c1, c1) refl

  pub lineage_asked : asked_by (codes "lineage" ∷ a ∷ b ∷ c ∷ []) ≡ Some (lineage a b c)
  lineage_asked = asked_is _ _ lineage_fault ∙ lineage_found

-- a subcommand that was met, from its name and its rows
pub met_is : (o : Option (Text × List Row)) (name : Text) (rows : List Row) → option_map (λ p. p.0) o ≡ Some name → option_map (λ p. p.1) o ≡ Some rows → o ≡ Some (name, rows)
met_is None name rows e f = absurd cc
met_is (Some p) name rows e f = let a : p.0 ≡ name = cc in let b : p.1 ≡ rows = cc in ap₂ (λ x y. Some (x, y)) a b

-- the name of the subcommand that a parse met
pub name_met : {Z : Type 0} (x : Option (Box SubCommand Z)) → option_map (λ p. p.0) (subcommand_rows x) ≡ option_map (λ b. (out-SubCommand (box_value b)).name.now) x
name_met None = refl
name_met (Some b) = refl

-- a dump's five words by the rows
pub asked_dump : (f : Found) (name : Text) → bytes_eq name (codes "script") ≡ false → bytes_eq name (codes "dump") ≡ true
    → dump_of (first_value f (codes "ID")) (first_value f (codes "SIZE")) (first_value f (codes "ROOT")) (first_value f (codes "NSIZE")) (first_value f (codes "NROOT")) ≡ found_in (name, rows_of f)
asked_dump f name other is =
    rw (other, is, first_value-rows f (codes "ID"), first_value-rows f (codes "SIZE"), first_value-rows f (codes "ROOT"), first_value-rows f (codes "NSIZE"), first_value-rows f (codes "NROOT")) refl

-- a lineage's three words by the rows
pub asked_lineage : (f : Found) (name : Text) → bytes_eq name (codes "script") ≡ false → bytes_eq name (codes "dump") ≡ false
    → lineage_of (first_value f (codes "NAME")) (first_value f (codes "SIZE")) (first_value f (codes "ROOT")) ≡ found_in (name, rows_of f)
asked_lineage f name other another = rw (other, another, first_value-rows f (codes "NAME"), first_value-rows f (codes "SIZE"), first_value-rows f (codes "ROOT")) refl
