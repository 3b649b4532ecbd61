-- A soak without stops is determined by its seed and its count.
use Rattle.std.proofs.Common.{◌≡◌, ℕ, ◌+◌, Bool, true, false, cond, List, [], ◌∷◌, ◌++◌, length, map, drop, get_or, refl, sym, ap, subst, ◌∙◌, arith}
use Rattle.ledger_bytes.specs.Causes.{count_after}
use Rattle.ledger_bytes.specs.Digests.{digest}
use Rattle.journal_record.specs.Tags.{tag_key_of}
use Rattle.time_peg.specs.Entries.{NotaryState, Origin, entry_of}
use Rattle.ledger_model.specs.Anchors.{peg_at}
use Rattle.ledger_model.specs.Genesis.{new_ledger}
use Rattle.ledger_model.specs.History.{History, id, size, point, root}
use Rattle.ledger_model.specs.Notary.{asks, Changes, Attends}
use Rattle.ledger_model.specs.Rules.{job_of, judged_at, after_step}
use Rattle.ledger_model.specs.Step.{Step}
use Rattle.ledger_model.specs.Took.{notary_after, counts_after, Took}
use Rattle.ledger_model.proofs.TookLaws.{took_counted}
use Rattle.notary_ledger.specs.Notaries.{memory_origin}
use Rattle.ledger_soak.specs.Soaks.{silent_notary, place_of, first_stage, IsSetUp, IsSoaked, IsFaultless, TellsSoak, summary_text}
use Rattle.ledger_soak.specs.Turns.{Fate, Turn, Stage, TakesPart, AreTurns, next_stage, last_stage, turn_count, was_stopped, was_answered_by, is_no, is_proof_reply, soak_genesis}
use Rattle.ledger_soak.specs.declared.summary.Summary.{Summary}

-- ---- a step

-- where the notary doesn't fail, its list behind a step is determined
same_list : (asked : Bool) (peg : List ℕ) (before one other : List (List ℕ)) → Changes asked false memory_origin.making peg before one → Changes asked false memory_origin.making peg before other → one ≡ other
same_list false peg before one other a b = a ∙ sym b
same_list true peg before one other a b =
    let time = a.0.4.1 ∙ sym b.0.4.1 in
    let salt = a.0.4.0 ∙ sym b.0.4.0 in
    a.0.3 ∙ (λ i. before ++ entry_of (time i) peg (salt i) ∷ []) ∙ sym b.0.3

-- the notary's part in a step with this line and list, in which it didn't fail
abbrev Part : History → List ℕ → List (List ℕ) → Bool → List (List ℕ) → Type 0
Part h line before failed after =
    let job = job_of tag_key_of (id h) line in
    let g = judged_at h job in
    Changes (asks g before job) failed memory_origin.making (peg_at g (size g)) before after

module _ (h : History) (s t : Step) (lanes : s.lane ≡ t.lane) (indexes : s.index ≡ t.index) (lines : s.line ≡ t.line) (lists : s.before ≡ t.before) (s_well : s.failed ≡ false) (t_well : t.failed ≡ false)
    (a : Attends tag_key_of h memory_origin.making s) (b : Attends tag_key_of h memory_origin.making t) where
  same_after : s.after ≡ t.after
  same_after =
      let job = job_of tag_key_of (id h) t.line in
      let g = judged_at h job in
      same_list (asks g t.before job) (peg_at g (size g)) t.before s.after t.after
      (subst (λ (x : List ℕ × List (List ℕ) × Bool). Part h x.0 x.1 x.2 s.after) (λ i. (lines i, lists i, s_well i)) a.list)
      (subst (λ (v : Bool). Part h t.line t.before v t.after) t_well b.list)

  same_step : s ≡ t
  same_step = λ i. record { lane = lanes i; index = indexes i; line = lines i; failed = (s_well ∙ sym t_well) i; before = lists i; after = same_after i }

-- ---- the setup

-- none of some steps failed
abbrev AllWell : List Step → Type 0
AllWell [] = Unit {0}
AllWell (step ∷ steps) = (step.failed ≡ false) × AllWell steps

no_less : (steps : List Step) (n : ℕ) → counts_after steps n ≡ 0 → (n ≡ 0) × AllWell steps
no_less [] n none = (none, tt)
no_less (step ∷ steps) n none = by step.failed refl (no_less steps _ none) where
  by : (v : Bool) → step.failed ≡ v → ((cond v (count_after n) n) ≡ 0) × AllWell steps → (n ≡ 0) × ((step.failed ≡ false) × AllWell steps)
  by true is more = absurd (let no : ⊥ = omega (arith, more.0) in no)
  by false is more = (more.0, (is, more.1))

same_steps : (h : History) (n : NotaryState) (xs ys : List Step) (m k : NotaryState) → n.origin ≡ memory_origin → map place_of xs ≡ map place_of ys → map (λ (step : Step). step.line) xs ≡ map (λ (step : Step). step.line) ys
    → AllWell xs → AllWell ys → Took tag_key_of h n xs m → Took tag_key_of h n ys k → (xs ≡ ys) × (m ≡ k)
same_steps h n [] [] m k origin places lines xs_well ys_well a b = (refl, a ∙ sym b)
same_steps h n [] (y ∷ ys) m k origin places lines xs_well ys_well a b = absurd (let no : ⊥ = omega (arith, ap length places) in no)
same_steps h n (x ∷ xs) [] m k origin places lines xs_well ys_well a b = absurd (let no : ⊥ = omega (arith, ap length places) in no)
same_steps h n (x ∷ xs) (y ∷ ys) m k origin places lines xs_well ys_well a b =
    let place : place_of x ≡ place_of y = ap (λ (l : List (ℕ × ℕ)). get_or l 0 (0, 0)) places in
    let line : x.line ≡ y.line = ap (λ (l : List (List ℕ)). get_or l 0 []) lines in
    let one : x ≡ y =
    same_step h x y (ap (λ (p : ℕ × ℕ). p.0) place) (ap (λ (p : ℕ × ℕ). p.1) place) line (a.0 ∙ sym b.0) xs_well.0 ys_well.0
    (subst (λ (o : Origin). Attends tag_key_of h o.making x) origin a.1) (subst (λ (o : Origin). Attends tag_key_of h o.making y) origin b.1) in
    let more =
    same_steps (after_step tag_key_of h x) (notary_after n x) xs ys m k origin (ap (λ (l : List (ℕ × ℕ)). drop 1 l) places) (ap (λ (l : List (List ℕ)). drop 1 l) lines) xs_well.1 ys_well.1 a.2
    (subst (λ (s : Step). Took tag_key_of (after_step tag_key_of h s) (notary_after n s) ys k) (sym one) b.2) in
    (λ i. one i ∷ more.0 i, more.1)

same_setup : (xs ys : List Step) (m k : NotaryState) → IsSetUp xs m → IsSetUp ys k → (xs ≡ ys) × (m ≡ k)
same_setup xs ys m k a b =
    let h = new_ledger soak_genesis in
    same_steps h silent_notary xs ys m k refl (a.places ∙ sym b.places) (a.lines ∙ sym b.lines) (no_less xs 0 (sym (took_counted tag_key_of h silent_notary m xs a.took) ∙ a.unfailed)).1
    (no_less ys 0 (sym (took_counted tag_key_of h silent_notary k ys b.took) ∙ b.unfailed)).1 a.took b.took

-- ---- the jobs

same_turns : (s : Stage) (ts us : List Turn) → length ts ≡ length us → AreTurns 0 s ts → AreTurns 0 s us → ts ≡ us
same_turns s [] [] many a b = refl
same_turns s [] (u ∷ us) many a b = absurd (let no : ⊥ = omega (arith, many) in no)
same_turns s (t ∷ ts) [] many a b = absurd (let no : ⊥ = omega (arith, many) in no)
same_turns s (t ∷ ts) (u ∷ us) many a b =
    let x = a.0 in
    let y = b.0 in
    let step : t.step ≡ u.step =
    same_step s.history t.step u.step (x.lane_is ∙ sym y.lane_is) (x.index_is ∙ sym y.index_is) (x.line_is ∙ sym y.line_is) (x.list_is ∙ sym y.list_is) x.unfailed y.unfailed
    (subst (λ (f : Fate). TakesPart f s.history t.step) (x.unfused refl) x.part) (subst (λ (f : Fate). TakesPart f s.history u.step) (y.unfused refl) y.part) in
    let fate : t.fate ≡ u.fate = x.unfused refl ∙ sym (y.unfused refl) in
    let one : t ≡ u = λ i. record { step = step i; fate = fate i } in
    let more = same_turns (next_stage s t) ts us (omega (arith, many)) a.1 (subst (λ (v : Turn). AreTurns 0 (next_stage s v) us) (sym one) b.1) in
    λ i. one i ∷ more i

-- ---- the summary

module _ (x y : Summary) (seeds : x.seed ≡ y.seed) (counts : x.count ≡ y.count) (x_stop : x.stop ≡ 0) (y_stop : y.stop ≡ 0) (a : IsSoaked x) (b : IsSoaked y) (c : IsFaultless x) (d : IsFaultless y) where
  setup : (a.setup ≡ b.setup) × (a.notary ≡ b.notary)
  setup = same_setup a.setup b.setup a.notary b.notary a.is_set_up b.is_set_up

  first : first_stage x.seed a.setup a.notary ≡ first_stage y.seed b.setup b.notary
  first = λ i. first_stage (seeds i) (setup.0 i) (setup.1 i)

  turns : a.turns ≡ b.turns
  turns =
      same_turns (first_stage x.seed a.setup a.notary) a.turns b.turns (a.count_is ∙ counts ∙ sym b.count_is) (subst (λ n. AreTurns n (first_stage x.seed a.setup a.notary) a.turns) x_stop a.are_turns)
      (subst (λ s. AreTurns 0 s b.turns) (sym first) (subst (λ n. AreTurns n (first_stage y.seed b.setup b.notary) b.turns) y_stop b.are_turns))

  last : last_stage (first_stage x.seed a.setup a.notary) a.turns ≡ last_stage (first_stage y.seed b.setup b.notary) b.turns
  last = λ i. last_stage (first i) (turns i)

  count_same : (is_so : Stage → Turn → Bool) → turn_count is_so (first_stage x.seed a.setup a.notary) a.turns ≡ turn_count is_so (first_stage y.seed b.setup b.notary) b.turns
  count_same is_so = λ i. turn_count is_so (first i) (turns i)

  proofs : x.proofs ≡ y.proofs
  proofs = a.proofs_are ∙ count_same (was_answered_by is_proof_reply) ∙ sym b.proofs_are

  sessions : x.sessions ≡ y.sessions
  sessions = a.sessions_are ∙ ap (λ n. n + 1) (count_same was_stopped) ∙ sym b.sessions_are

  refused : x.refused ≡ y.refused
  refused = a.refused_are ∙ count_same (was_answered_by is_no) ∙ sym b.refused_are

  sizes : x.size ≡ y.size
  sizes = a.size_is ∙ ap (λ (s : Stage). size s.history) last ∙ sym b.size_is

  points : x.point ≡ y.point
  points = a.point_is ∙ ap (λ (s : Stage). point s.history) last ∙ sym b.point_is

  roots : x.root ≡ y.root
  roots = a.root_is ∙ ap (λ (s : Stage). digest (root s.history (size s.history))) last ∙ sym b.root_is

  same : x ≡ y
  same = λ i. record {
    seed = seeds i;
    count = counts i;
    stop = (x_stop ∙ sym y_stop) i;
    sessions = sessions i;
    size = sizes i;
    point = points i;
    refused = refused i;
    proofs = proofs i;
    yes = (c.all_accepted ∙ proofs ∙ sym d.all_accepted) i;
    lost = (c.none_lost ∙ sym d.none_lost) i;
    root = roots i;
  }

pub same_text : (seed count : ℕ) (text other : List ℕ) → TellsSoak seed count 0 text → TellsSoak seed count 0 other → text ≡ other
same_text seed count text other a b =
    a.text_is
    ∙ ap summary_text (same a.summary b.summary (a.seed_is ∙ sym b.seed_is) (a.count_is ∙ sym b.count_is) a.stop_is b.stop_is a.soaked b.soaked a.faultless b.faultless)
    ∙ sym b.text_is
