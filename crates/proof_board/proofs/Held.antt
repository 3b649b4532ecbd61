-- What a board's tree keeps as it is made and as it grows.
use Rattle.std.proofs.Common.{◌≡◌, ℕ, ◌+◌, ◌-◌, ◌<◌, ◌%◌, List, [], ◌∷◌, ◌++◌, length, drop, take, refl, sym, ap, ◌∙◌, subst, append_assoc, append-nil, arith, drop_at, take_at, count_ones}
use Rattle.std.proofs.lemmas.List.Elements.{All-take}
use Rattle.std.specs.Prelude.{All}
use Rattle.sha2.specs.Sha256.{sha256}
use Rattle.tree_model.specs.Tree.{Hash}
use Rattle.tree_model.specs.Peaks.{peaks as peaks_of}
use Rattle.tree_model.specs.RootFrom.{last_peak}
use Rattle.tree_model.proofs.PeakHalves.{length-last_peak}
use Rattle.merkle_batch.specs.Rows.{Row, first_of, Levels, StandsFor}
use Rattle.merkle_batch.specs.Over.{KeepsOver, StandsOver}
use Rattle.merkle_batch.proofs.Over.{over_ones, over_keeps, over_size}
use Rattle.tree_model.specs.Tree.{root}
use Rattle.merkle_tree.specs.declared.head.Head.{Head}
use Rattle.proof_board.specs.declared.view.Growth.{Growth}
use Rattle.proof_board.specs.History.{Digests, IsWide, Mark}
use Rattle.proof_board.specs.Answers.{IsShownHead}
use Rattle.proof_board.specs.Bare.{IsBareOf, IsProved}
use Rattle.proof_board.proofs.BareLaws.{bare_proved}
use Rattle.proof_board.specs.Growing.{base_of, growth, IsListOf, kept_in, kept_of, IsHeld}

kept_rows : (hash : Hash) (p : ℕ) (rows : List Row) (ps xs : Digests) → length ps ≡ count_ones p → KeepsOver hash p p rows ps xs → kept_in p rows ≡ xs
unfolding KeepsOver
kept_rows hash p [] ps xs ones keeps = sym keeps.2
kept_rows hash p (row ∷ rows) ps xs ones keeps =
    let none : first_of p - first_of p ≡ 0 = omega arith in
    ap (drop (p % 2)) (keeps.0 ∙ ap (λ j. drop j (last_peak p ps ++ xs)) none) ∙ drop_at (last_peak p ps) xs (p % 2) (length-last_peak ps p ones)

-- the leaves that a tree keeps are those behind its base
pub kept_is : (hash : Hash) (tree : Levels) (ps xs : Digests) → StandsOver hash tree tree.floor ps xs → kept_of tree ≡ xs
kept_is hash tree ps xs over = kept_rows hash tree.floor tree.rows ps xs (over_ones hash tree tree.floor ps xs over) (over_keeps hash tree tree.floor ps xs over)

-- so is what is held, where the leaves behind the base are known
pub held_of : (tree : Levels) (p : ℕ) (ps xs : Digests) → tree.floor ≡ p → StandsOver sha256 tree p ps xs → ((ds : Digests) → IsListOf (base_of p ps) xs ds → StandsFor sha256 tree ds) → IsHeld tree ps
held_of tree p ps xs floor over lists =
    let over' : StandsOver sha256 tree tree.floor ps xs = subst (λ q. StandsOver sha256 tree q ps xs) (sym floor) over in
    let kept = kept_is sha256 tree ps xs over' in record {
      over = subst (λ l. StandsOver sha256 tree tree.floor ps l) (sym kept) over';
      lists = λ ds list. lists ds (subst (λ (z : ℕ × Digests). IsListOf (base_of z.0 ps) z.1 ds) (λ i. (floor i, kept i)) list);
    }

-- a list that goes on is one whose first part goes on
pub list_front : (p : ℕ) (ps xs more ds : Digests) → IsListOf (base_of p ps) (xs ++ more) ds → (es : Digests) × IsListOf (base_of p ps) xs es × (ds ≡ es ++ more)
list_front p ps xs more ds list =
    let es = list.front ++ xs in
    let same : ds ≡ es ++ more = list.whole ∙ sym (append_assoc list.front xs more) in
    let short : take (length es) ds ≡ es = ap (take (length es)) same ∙ take_at es more (length es) refl in (
      es,
      record { front = list.front; whole = refl; count = list.count; peaks = list.peaks; wide = subst (All IsWide) short (All-take IsWide (length es) ds list.wide) },
      same,
    )

-- a new tree
pub held_new : (tree : Levels) (p : ℕ) (ps : Digests) → tree.floor ≡ p → StandsOver sha256 tree p ps [] → ((ds : Digests) → length ds ≡ p → ps ≡ peaks_of sha256 ds → StandsFor sha256 tree ds) → IsHeld tree ps
held_new tree p ps floor over lists = held_of tree p ps [] floor over
    (λ ds list. let is : ds ≡ list.front = list.whole ∙ append-nil list.front in lists ds (ap length is ∙ list.count) (sym list.peaks ∙ ap (peaks_of sha256) (sym is)))

-- a tree that has other rooms
pub held_same : (old new : Levels) (ps : Digests) → new.floor ≡ old.floor → ((q : ℕ) (rs xs : Digests) → StandsOver sha256 old q rs xs → StandsOver sha256 new q rs xs) → ((ds : Digests) → StandsFor sha256 old ds → StandsFor sha256 new ds) → IsHeld old ps → IsHeld new ps
held_same old new ps floor over lists held = held_of new old.floor ps (kept_of old) floor (over old.floor ps (kept_of old) held.over) (λ ds list. lists ds (held.lists ds list))

pub kept_same : (old new : Levels) (ps : Digests) → new.floor ≡ old.floor → ((q : ℕ) (rs xs : Digests) → StandsOver sha256 old q rs xs → StandsOver sha256 new q rs xs) → IsHeld old ps → kept_of new ≡ kept_of old
kept_same old new ps floor over held = kept_is sha256 new ps (kept_of old) (subst (λ q. StandsOver sha256 new q ps (kept_of old)) (sym floor) (over old.floor ps (kept_of old) held.over))

-- a tree that has grown
pub held_more : (old new : Levels) (ps more : Digests) → new.floor ≡ old.floor → ((q : ℕ) (rs xs : Digests) → StandsOver sha256 old q rs xs → StandsOver sha256 new q rs (xs ++ more)) → ((ds : Digests) → StandsFor sha256 old ds → StandsFor sha256 new (ds ++ more)) → IsHeld old ps → IsHeld new ps
held_more old new ps more floor over lists held = held_of new old.floor ps (kept_of old ++ more) floor (over old.floor ps (kept_of old) held.over)
    (λ ds list. let part = list_front old.floor ps (kept_of old) more ds list in subst (StandsFor sha256 new) (sym part.2) (lists part.0 (held.lists part.0 part.1)))

pub kept_more : (old new : Levels) (ps more : Digests) → new.floor ≡ old.floor → ((q : ℕ) (rs xs : Digests) → StandsOver sha256 old q rs xs → StandsOver sha256 new q rs (xs ++ more)) → IsHeld old ps → kept_of new ≡ kept_of old ++ more
kept_more old new ps more floor over held = kept_is sha256 new ps (kept_of old ++ more) (subst (λ q. StandsOver sha256 new q ps (kept_of old ++ more)) (sym floor) (over old.floor ps (kept_of old) held.over))

pub none_kept : (tree : Levels) (p : ℕ) (ps : Digests) → tree.floor ≡ p → StandsOver sha256 tree p ps [] → kept_of tree ≡ []
none_kept tree p ps floor over = kept_is sha256 tree ps [] (subst (λ q. StandsOver sha256 tree q ps []) (sym floor) over)

pub size_is : (tree : Levels) (ps : Digests) → IsHeld tree ps → tree.floor + length (kept_of tree) ≡ tree.size
size_is tree ps held = over_size sha256 tree tree.floor ps (kept_of tree) held.over

-- the head of what a tree stands for
pub head_is : (tree : Levels) (ps : Digests) (at : Mark) (g : Growth) (head : Head) → growth (base_of tree.floor ps) (kept_of tree) at ≡ g → IsHeld tree ps → head.size ≡ tree.size → ((ds : Digests) → StandsFor sha256 tree ds → head.root.0 ≡ root sha256 ds) → IsShownHead g head
head_is tree ps at g head is held size told = subst (λ (x : Growth). IsShownHead x head) is record { size = size ∙ sym (size_is tree ps held); root_is = λ ds list. told ds (held.lists ds list) }

-- the proof that is made of a tree is one of each list that it stands for, under its head
pub led_by : (tree : Levels) (ps : Digests) (at : Mark) (g : Growth) (n : ℕ) (head : Head) (bytes : List ℕ) → growth (base_of tree.floor ps) (kept_of tree) at ≡ g → IsHeld tree ps → n < tree.size → IsShownHead g head → IsBareOf tree n bytes
    → (ds : Digests) → IsListOf g.base g.leaves ds → IsProved ds n head bytes
led_by tree ps at g n head bytes is held within told made ds list =
    let here : IsListOf (base_of tree.floor ps) (kept_of tree) ds = subst (λ (x : Growth). IsListOf x.base x.leaves ds) (sym is) list in
    let size : head.size ≡ tree.size = told.size ∙ ap (λ (x : Growth). x.base.floor + length x.leaves) (sym is) ∙ size_is tree ps held in
    bare_proved tree n bytes ds head made (held.lists ds here) list.wide within size (told.root_is ds list)
