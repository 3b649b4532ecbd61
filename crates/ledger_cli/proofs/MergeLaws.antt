-- Lemmas on merges.
use Rattle.std.specs.Prelude.{⊤, All, filter}
use Rattle.std.proofs.Common.{◌≡◌, ℕ, ◌+◌, ◌==◌, Bool, true, false, cond, List, [], ◌∷◌, ◌++◌, length, map, refl, ap, sym, subst, ◌∙◌, arith, length-append, eq-eqb}
use Rattle.std.specs.List.{flat_map}
use Rattle.std.proofs.lemmas.List.Elements.{filter-append, All-head, All-tail}
use Rattle.script_lines.specs.Grammar.{spoken_line}
use Rattle.script_lines.specs.Receipts.{FitsWord}
use Rattle.time_peg.specs.Entries.{NotaryState}
use Rattle.ledger_model.specs.Dues.{AllCounted, EachCounted}
use Rattle.ledger_model.specs.InOrder.{step_of, steps_of}
use Rattle.ledger_model.specs.Merge.{said_by, picked_lines, lines_of_lane, IsMergeOf, IsMerge}
use Rattle.ledger_model.specs.Step.{Step}
use Rattle.ledger_model.specs.Windows.{Said, said_after, said_lines, windows, count_of}
use Rattle.ledger_model.proofs.WindowLaws.{joined}
use Rattle.ledger_cli.specs.Taken.{AllUnasked, EachUnasked}

-- ---- orders of lines

-- the lines in another order, each lane's in theirs
abbrev pub IsOrder : List Said → List Said → Type 0
IsOrder window order = (lane : ℕ) → lines_of_lane lane order ≡ lines_of_lane lane window

pub order_same : (window : List Said) → IsOrder window window
order_same window lane = refl

pub order_append : (a b x y : List Said) → IsOrder a x → IsOrder b y → IsOrder (a ++ b) (x ++ y)
order_append a b x y o p lane =
    filter-append (λ (l : Said). l.lane == lane) x y
    ∙ ap (λ (l : List Said). l ++ lines_of_lane lane y) (o lane) ∙ ap (λ (l : List Said). lines_of_lane lane a ++ l) (p lane)
    ∙ sym (filter-append (λ (l : Said). l.lane == lane) a b)

-- the lines of a lane's steps are the lane's lines
picked_said : (k : ℕ) (steps : List Step) → picked_lines k steps ≡ lines_of_lane k (map said_by steps)
picked_said k [] = refl
picked_said k (step ∷ steps) =
    elim (step.lane == k) as (λ b. map said_by (cond b (step ∷ filter (λ (s : Step). s.lane == k) steps) (filter (λ (s : Step). s.lane == k) steps)) ≡ cond b (said_by step ∷ lines_of_lane k (map said_by steps)) (lines_of_lane k (map said_by steps))) [
      | true ↦ ap (λ (l : List Said). said_by step ∷ l) (picked_said k steps)
      | false ↦ picked_said k steps
    ]

-- steps are a merge where their lines are an order
pub merge_order : (window : List Said) (steps : List Step) → IsMergeOf window steps → IsOrder window (map said_by steps)
merge_order window steps m lane = sym (picked_said lane steps) ∙ m lane

pub order_merge : (window : List Said) (steps : List Step) → IsOrder window (map said_by steps) → IsMergeOf window steps
order_merge window steps o lane = picked_said lane steps ∙ o lane

pub merges_append : (ws vs : List (List Said)) (xs ys : List (List Step)) → IsMerge ws xs → IsMerge vs ys → IsMerge (ws ++ vs) (xs ++ ys)
merges_append [] vs [] ys m n = n
merges_append [] vs (x ∷ xs) ys m n = absurd m
merges_append (a ∷ ws) vs [] ys m n = absurd m
merges_append (a ∷ ws) vs (x ∷ xs) ys m n = (m.0, merges_append ws vs xs ys m.1 n)

-- ---- lines that weren't taken

-- a line as a step in which the notary had no part
abbrev pub unasked : NotaryState → Said → Step
unasked n x = record { lane = x.lane; index = x.index; line = x.line; failed = true; before = n.entries; after = n.entries }

abbrev pub all_unasked : NotaryState → List Said → List Step
all_unasked n xs = map (unasked n) xs

pub said_unasked : (n : NotaryState) (xs : List Said) → map said_by (all_unasked n xs) ≡ xs
said_unasked n [] = refl
said_unasked n (x ∷ xs) = ap (λ (l : List Said). x ∷ l) (said_unasked n xs)

pub unasked_merge : (n : NotaryState) (xs : List Said) → IsMergeOf xs (all_unasked n xs)
unasked_merge n xs = order_merge xs (all_unasked n xs) (subst (IsOrder xs) (sym (said_unasked n xs)) (order_same xs))

pub unasked_merges : (n : NotaryState) (windows : List (List Said)) → IsMerge windows (map (all_unasked n) windows)
unasked_merges n [] = tt
unasked_merges n (window ∷ windows) = (unasked_merge n window, unasked_merges n windows)

pub are_unasked : (n : NotaryState) (xs : List Said) → AllUnasked n (all_unasked n xs)
are_unasked n [] = tt
are_unasked n (x ∷ xs) = ((refl, refl, refl), are_unasked n xs)

pub each_unasked : (n : NotaryState) (windows : List (List Said)) → EachUnasked n (map (all_unasked n) windows)
each_unasked n [] = tt
each_unasked n (window ∷ windows) = (are_unasked n window, each_unasked n windows)

-- an order of no lines has none
pub order_none : (order : List Said) → IsOrder [] order → order ≡ []
order_none [] o = refl
order_none (x ∷ xs) o = absurd (let no : ⊥ = some (eq-eqb x.lane x.lane refl) in no)
  where
    some : (x.lane == x.lane) ≡ true → ⊥
    some e = let is : x ∷ filter (λ (l : Said). l.lane == x.lane) xs ≡ [] = sym (ap (λ (b : Bool). cond b (x ∷ filter (λ (l : Said). l.lane == x.lane) xs) (filter (λ (l : Said). l.lane == x.lane) xs)) e) ∙ o x.lane in cc

pub none_order : (window : List Said) → IsOrder window [] → window ≡ []
none_order window o = order_none window (λ lane. sym (o lane))

-- ---- what holds of each lane's lines holds of all

pub AllSaid : (Said → Type 0) → List Said → Type 0
AllSaid P [] = ⊤
AllSaid P (x ∷ xs) = P x × AllSaid P xs

pub said_lanes : (P : Said → Type 0) (k : ℕ) (xs : List Said) → AllSaid P xs → AllSaid P (lines_of_lane k xs)
unfolding AllSaid
said_lanes P k [] a = tt
said_lanes P k (x ∷ xs) a =
    elim (x.lane == k) as (λ b. AllSaid P (cond b (x ∷ lines_of_lane k xs) (lines_of_lane k xs))) [ true ↦ (a.0, said_lanes P k xs a.1) | false ↦ said_lanes P k xs a.1 ]

pub said_all : (P : Said → Type 0) (xs : List Said) → ((k : ℕ) → AllSaid P (lines_of_lane k xs)) → AllSaid P xs
unfolding AllSaid
said_all P [] each = tt
said_all P (x ∷ xs) each = (
  (subst (λ (b : Bool). AllSaid P (cond b (x ∷ lines_of_lane x.lane xs) (lines_of_lane x.lane xs))) (eq-eqb x.lane x.lane refl) (each x.lane)).0,
  said_all P xs (λ k. later k (x.lane == k) (each k)),
)
  where
    later : (k : ℕ) (b : Bool) → AllSaid P (cond b (x ∷ lines_of_lane k xs) (lines_of_lane k xs)) → AllSaid P (lines_of_lane k xs)
    later k true a = a.1
    later k false a = a

-- what holds of a window's lines holds of them in another order
pub order_all : (P : Said → Type 0) (window order : List Said) → IsOrder window order → AllSaid P window → AllSaid P order
order_all P window order o a = said_all P order (λ k. subst (AllSaid P) (sym (o k)) (said_lanes P k window a))

-- ---- numbers

-- a line's numbers are as programs have them
pub Numbered : Said → Type 0
Numbered x = FitsWord x.lane × FitsWord x.index

counted_said : (window : List Said) → AllCounted (map step_of window) → AllSaid Numbered window
unfolding AllSaid Numbered
counted_said [] c = tt
counted_said (x ∷ xs) c = ((c.0.lane, c.0.index), counted_said xs c.1)

abbrev pub AllNumbered : List Step → Type 0
AllNumbered [] = ⊤
AllNumbered (step ∷ steps) = (FitsWord step.lane × FitsWord step.index) × AllNumbered steps

abbrev pub EachNumbered : List (List Step) → Type 0
EachNumbered [] = ⊤
EachNumbered (window ∷ windows) = AllNumbered window × EachNumbered windows

said_numbered : (steps : List Step) → AllSaid Numbered (map said_by steps) → AllNumbered steps
unfolding AllSaid Numbered
said_numbered [] a = tt
said_numbered (step ∷ steps) a = (a.0, said_numbered steps a.1)

-- so are those of a merge's steps
pub merge_numbered : (windows : List (List Said)) (steps : List (List Step)) → IsMerge windows steps → EachCounted (steps_of windows) → EachNumbered steps
merge_numbered [] [] m c = tt
merge_numbered [] (part ∷ parts) m c = absurd m
merge_numbered (window ∷ windows) [] m c = absurd m
merge_numbered (window ∷ windows) (part ∷ parts) m c = (
  said_numbered part (order_all Numbered window (map said_by part) (merge_order window part m.0) (counted_said window c.0)),
  merge_numbered windows parts m.1 c.1,
)

pub numbered_first : (steps rest : List Step) → AllNumbered (steps ++ rest) → AllNumbered steps
numbered_first [] rest a = tt
numbered_first (step ∷ steps) rest a = (a.0, numbered_first steps rest a.1)

-- .. and those of whole windows, and of the first steps of the next one
pub numbered_parts : (done : List (List Step)) (current rest : List Step) (more : List (List Step)) → EachNumbered (done ++ (current ++ rest) ∷ more) → EachNumbered done × AllNumbered current
numbered_parts [] current rest more e = (tt, numbered_first current rest e.0)
numbered_parts (window ∷ done) current rest more e = let r = numbered_parts done current rest more e.1 in ((e.0, r.0), r.1)

-- ---- where all lines belong to one lane

pub IsOf : ℕ → Said → Type 0
IsOf k x = x.lane ≡ k

lane_all : (k : ℕ) (xs : List Said) → AllSaid (IsOf k) xs → lines_of_lane k xs ≡ xs
unfolding AllSaid IsOf
lane_all k [] a = refl
lane_all k (x ∷ xs) a = ap (λ (b : Bool). cond b (x ∷ lines_of_lane k xs) (lines_of_lane k xs)) (eq-eqb x.lane k a.0) ∙ ap (λ (l : List Said). x ∷ l) (lane_all k xs a.1)

-- an order of one lane's lines is their order
pub order_alone : (k : ℕ) (window order : List Said) → AllSaid (IsOf k) window → IsOrder window order → order ≡ window
order_alone k window order a o = sym (lane_all k order (order_all (IsOf k) window order o a)) ∙ o k ∙ lane_all k window a

pub EachOf : ℕ → List (List Said) → Type 0
EachOf k [] = ⊤
EachOf k (window ∷ windows) = AllSaid (IsOf k) window × EachOf k windows

-- windows' lines that are of one lane are taken in their order
pub windows_alone : (k : ℕ) (windows : List (List Said)) (steps : List (List Step)) → EachOf k windows → IsMerge windows steps → map (map said_by) steps ≡ windows
unfolding EachOf
windows_alone k [] [] e m = refl
windows_alone k [] (part ∷ parts) e m = absurd m
windows_alone k (window ∷ windows) [] e m = absurd m
windows_alone k (window ∷ windows) (part ∷ parts) e m =
    ap (λ (w : List Said). w ∷ map (map said_by) parts) (order_alone k window (map said_by part) e.0 (merge_order window part m.0))
    ∙ ap (λ (ws : List (List Said)). window ∷ ws) (windows_alone k windows parts e.1 m.1)

-- ---- the lines of a script that belong to one lane

abbrev pub AllLines : ℕ → List (List ℕ) → Type 0
AllLines k lines = All (λ line. (spoken_line line).0 ≡ k) lines

lines_said : (k : ℕ) (earlier lines : List (List ℕ)) → AllLines k lines → AllSaid (IsOf k) (said_after earlier lines)
unfolding AllSaid IsOf
lines_said k earlier [] a = tt
lines_said k earlier (line ∷ lines) a = (All-head (λ line. (spoken_line line).0 ≡ k) line lines a, lines_said k (earlier ++ line ∷ []) lines (All-tail (λ line. (spoken_line line).0 ≡ k) line lines a))

said_split : (P : Said → Type 0) (xs ys : List Said) → AllSaid P (xs ++ ys) → AllSaid P xs × AllSaid P ys
unfolding AllSaid
said_split P [] ys a = (tt, a)
said_split P (x ∷ xs) ys a = let r = said_split P xs ys a.1 in ((a.0, r.0), r.1)

each_of : (k : ℕ) (windows : List (List Said)) → AllSaid (IsOf k) (flat_map (λ w. w) windows) → EachOf k windows
unfolding EachOf
each_of k [] a = tt
each_of k (window ∷ windows) a = let r = said_split (IsOf k) window (flat_map (λ w. w) windows) a in (r.0, each_of k windows r.1)

-- .. are taken in their order
pub alone : (k : ℕ) (lines : List (List ℕ)) (steps : List (List Step)) → AllLines k lines → IsMerge (windows (said_lines lines)) steps → map (map said_by) steps ≡ windows (said_lines lines)
alone k lines steps a m =
    windows_alone k (windows (said_lines lines)) steps
    (each_of k (windows (said_lines lines)) (subst (AllSaid (IsOf k)) (sym (joined 0 0 (said_lines lines))) (lines_said k [] lines a)))
    m

-- ---- parts of a window

-- the lines of a script's part that belong to a lane, with their numbers
pub count_more : (k : ℕ) (earlier : List (List ℕ)) (line : List ℕ) → count_of k (earlier ++ line ∷ []) ≡ cond ((spoken_line line).0 == k) (count_of k earlier + 1) (count_of k earlier)
count_more k earlier line = ap length (filter-append (λ (l : List ℕ). (spoken_line l).0 == k) earlier (line ∷ [])) ∙ length-append (filter (λ (l : List ℕ). (spoken_line l).0 == k) earlier) (filter (λ (l : List ℕ). (spoken_line l).0 == k) (line ∷ [])) ∙ by ((spoken_line line).0 == k)
  where
    by : (b : Bool) → count_of k earlier + length (cond b (line ∷ []) []) ≡ cond b (count_of k earlier + 1) (count_of k earlier)
    by true = refl
    by false = omega arith
