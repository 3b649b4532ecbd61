-- The rule of the queue, over lists of items and over what each pass knows.
use Rattle.std.specs.Prelude.{◌≡◌, ℕ, ◌+◌, ◌<◌, ◌≤◌, ◌==◌, true, false, List, [], ◌∷◌, ◌++◌, length, slice_index_or, filter, ⊤}
use mathlib.Core.Option.{some}
use lib.ListN.{get_elem?}
use Rattle.intake_queue.specs.declared.view.View.{View}

-- of each lane the number of its first item, and how many items it may send
abbrev pub Plan : Type 0
Plan = List (ℕ × ℕ)

-- the number that the first item of lane k has
abbrev pub first_in : Plan → ℕ → ℕ
first_in plan k = (slice_index_or plan k (0, 0)).0

-- how many items lane k may send
abbrev pub quota_in : Plan → ℕ → ℕ
quota_in plan k = (slice_index_or plan k (0, 0)).1

-- the plan of lanes with these first numbers and these quotas
unfoldable pub plan_of : List ℕ → List ℕ → Plan
plan_of [] qs = []
plan_of (f ∷ fs) [] = []
plan_of (f ∷ fs) (q ∷ qs) = (f, q) ∷ plan_of fs qs

-- how many items all lanes may send together
unfoldable pub room : Plan → ℕ
room [] = 0
room (p ∷ ps) = p.1 + room ps

module _ {T : Type 0} where
  -- the taker's pass of a queue whose lanes aren't planned yet
  abbrev pub unopened : View T
  unopened = record { gets = true; sends = false; plan = []; lane = 0; sent = []; got = []; lent = 0; back = [] }

  -- the taker's pass, which got these items, lent the first lanes passes of their own, and has back what the first ones sent
  abbrev pub taker : Plan → List T → ℕ → List (List T) → View T
  taker plan got lent back = record { gets = true; sends = false; plan = plan; lane = 0; sent = []; got = got; lent = lent; back = back }

  -- the pass of lane k, which sent these items
  abbrev pub sender : Plan → ℕ → List T → View T
  sender plan k sent = record { gets = false; sends = true; plan = plan; lane = k; sent = sent; got = []; lent = 0; back = [] }

  -- what is left of a pass that was handed back
  abbrev pub spent : View T
  spent = record { gets = false; sends = false; plan = []; lane = 0; sent = []; got = []; lent = 0; back = [] }

  -- those of some items that are of one lane, in order
  unfoldable pub of_lane : (T → ℕ) → ℕ → List T → List T
  of_lane lane k xs = filter (λ x. lane x == k) xs

  -- the numbers of these items go on one by one from n
  unfoldable pub CountsOn : (T → ℕ) → ℕ → List T → Type 0
  CountsOn index n [] = ⊤
  CountsOn index n (x ∷ xs) = (index x ≡ n) × CountsOn index (n + 1) xs

  -- each item is of a lane that there is: one below n
  unfoldable pub Below : (T → ℕ) → ℕ → List T → Type 0
  Below lane n [] = ⊤
  Below lane n (x ∷ xs) = (lane x < n) × Below lane n xs

module _ {T : Type 0} (lane index : T → ℕ) where
  -- A lane's pass knows what its lane sent. `seat` has the number of each lane's pass, so there is one; its lane was lent and isn't back
  pub record FitsLane (plan : Plan) (seat : ℕ → ℕ) (back lent : ℕ) (all : List T) (port : ℕ) (v : View T) : Type 0 where
    pub is : v ≡ sender plan v.lane (of_lane lane v.lane all)
    pub here : port ≡ seat v.lane
    pub out : back ≤ v.lane
    pub lent_out : v.lane < lent

  -- The taker's pass, which has the number `reader`, knows what was got and what the lanes sent that are back; a lane that isn't lent sent nothing
  pub record FitsTaker (plan : Plan) (reader back lent : ℕ) (all got : List T) (port : ℕ) (v : View T) : Type 0 where
    pub is : v ≡ taker plan got lent v.back
    pub here : port ≡ reader
    pub returned : length v.back ≡ back
    pub known : (k : ℕ) → k < back → slice_index_or v.back k [] ≡ of_lane lane k all
    pub idle : (k : ℕ) → lent ≤ k → of_lane lane k all ≡ []

  -- The rule. What was sent in all is what was got and then what the queue holds. Each lane's items count on from its first index, and keep to
  -- its quota. Each pass knows what it says
  pub record KeepsRule (items : List T) (views : List (View T)) : Type 0 where
    pub plan : Plan
    pub seat : ℕ → ℕ
    pub reader : ℕ
    pub back : ℕ
    pub lent : ℕ
    pub all : List T
    pub got : List T
    pub whole : all ≡ got ++ items
    pub ordered : back ≤ lent
    pub fewer : lent ≤ length plan
    pub lanes : Below lane (length plan) all
    pub counts : (k : ℕ) → CountsOn index (first_in plan k) (of_lane lane k all)
    pub within : (k : ℕ) → length (of_lane lane k all) ≤ quota_in plan k
    pub lane_fits : (port : ℕ) (v : View T) → get_elem? views port ≡ some v → v.sends ≡ true → FitsLane plan seat back lent all port v
    pub taker_fits : (port : ℕ) (v : View T) → get_elem? views port ≡ some v → v.gets ≡ true → FitsTaker plan reader back lent all got port v

  -- what a pop tells: the item is of a lane, and is the next of that lane
  abbrev pub Took : View T → T → View T → Type 0
  Took v x w =
      (w ≡ taker v.plan (v.got ++ x ∷ []) v.lent v.back)
      × (lane x < length v.plan)
      × (index x ≡ first_in v.plan (lane x) + length (of_lane lane (lane x) v.got))

  -- what a pop that finds nothing tells: the queue held these items, under the rule
  abbrev pub Stood : View T → List T → Type 0
  Stood v items = (views : List (View T)) × (port : ℕ) × KeepsRule items views × (get_elem? views port ≡ some v)

  -- of each lane, what it sent is what was got of it and then what the queue holds of it; no item is of another lane
  abbrev pub Settled : Plan → List (List T) → List T → List T → Type 0
  Settled plan sent got items =
      Below lane (length plan) (got ++ items)
      × ((k : ℕ) → k < length plan → slice_index_or sent k [] ≡ of_lane lane k (got ++ items))
