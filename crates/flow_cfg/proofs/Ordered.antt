-- Edges in an order.
use Rattle.std.proofs.Common.{◌≡◌, ℕ, ◌+◌, ◌<◌, ◌≤◌, inl, inr, List, length, slice_index, subst, sym, ap, ◌∙◌, arith, All, Result, Ok, Err}
use Rattle.std.proofs.lemmas.List.{get_or_default}
use Rattle.std.proofs.lemmas.List.Elements.{All-weaker, All-get_or}
use Rattle.std.specs.Prelude.{slice_index_or, Contains, get_or}
use Rattle.std.specs.Result.{IfOk}
use Rattle.flow_cfg.specs.Listing.{ArePlaces, ListsOnce}
use Rattle.flow_cfg.specs.Parts.{Holds, Follows, IsHeld, HasCause, AreCaused, HasLast, AreTight, IsBack, IsCausedSo, AreCausedSo}
use Rattle.flow_cfg.proofs.Nested.{three}

held_at : (places ends : List ℕ) (edge : ℕ × ℕ) (i j : ℕ) → edge.0 < length places → edge.1 < length places → slice_index places edge.0 ≡ i → slice_index places edge.1 ≡ j → IsHeld places ends edge → j ≤ i → Holds ends j i
held_at places ends edge i j short short' from to held back =
    let past : slice_index places edge.0 < slice_index ends (slice_index places edge.1) = held short short' (omega (arith, from, to, back)) in
    let there : slice_index places edge.0 < slice_index ends j = subst (λ (m : ℕ). slice_index places edge.0 < slice_index ends m) to past in
    (back, omega (arith, there, from))

node_short : (order : List ℕ) (nodes node i : ℕ) → All (λ n. n < nodes) order → i < length order → slice_index order i ≡ node → node < nodes
node_short order nodes node i within lt is = omega (arith, is, All-get_or (λ n. n < nodes) order i 0 lt within)

follows_one : (order places ends : List ℕ) → All (λ n. n < length places) order → ArePlaces order places → (edge : ℕ × ℕ) → IsHeld places ends edge → Follows order ends edge
follows_one order places ends within p edge held i j lt lt' from to =
    let short : edge.0 < length places = node_short order (length places) edge.0 i within lt from in
    let short' : edge.1 < length places = node_short order (length places) edge.1 j within lt' to in
    let at : slice_index places edge.0 ≡ i = subst (λ (n : ℕ). slice_index places n ≡ i) from (p i lt) in
    let at' : slice_index places edge.1 ≡ j = subst (λ (n : ℕ). slice_index places n ≡ j) to (p j lt') in
    elim (three i j) [
      | inl before ↦ elim before [
        | inl less ↦ inl (less, λ h. omega (arith, h.0, less))
        | inr same ↦ inr (held_at places ends edge i j short short' at at' held (omega (arith, same)))
      ]
      | inr past ↦ inr (held_at places ends edge i j short short' at at' held (omega (arith, past)))
    ]

all_follow : (order places ends : List ℕ) (edges : List (ℕ × ℕ)) → All (λ n. n < length places) order → ArePlaces order places → All (IsHeld places ends) edges → All (Follows order ends) edges
all_follow order places ends edges within p held = All-weaker (IsHeld places ends) (Follows order ends) (follows_one order places ends within p) edges held

-- ---- why there are parts

-- a node stands where its place says
node_at : (order places : List ℕ) (node : ℕ) → ListsOnce (length places) order → ArePlaces order places → node < length places → (slice_index places node < length order) × (slice_index order (slice_index places node) ≡ node)
node_at order places node once p lt =
    let there : Contains order node = once.all node lt in
    let stands : slice_index order there.0 ≡ node = get_or_default order there.0 0 node there.1 ∙ there.2 in
    let at : slice_index places node ≡ there.0 = subst (λ (n : ℕ). slice_index places n ≡ there.0) stands (p there.0 there.1) in
    (omega (arith, at, there.1), subst (λ (k : ℕ). slice_index order k ≡ node) (sym at) stands)

-- an edge that the table has
edge_at : (edges : List (ℕ × ℕ)) (at u v : ℕ) → at < length edges → u ≡ (slice_index_or edges at (0, 0)).0 → v ≡ (slice_index_or edges at (0, 0)).1 → Contains edges (u, v)
edge_at edges at u v lt is is' =
    let same : (u, v) ≡ slice_index_or edges at (0, 0) = ap (λ (w : ℕ). (w, v)) is ∙ ap (λ (w : ℕ). ((slice_index_or edges at (0, 0)).0, w)) is' in
    (at, lt, get_or_default edges at (u, v) (0, 0) lt ∙ sym same)

edge_of : (order places : List ℕ) (edges : List (ℕ × ℕ)) (from to : ℕ) → ListsOnce (length places) order → ArePlaces order places → IsBack places edges from to → (from < length order) × Contains edges (slice_index order from, slice_index order to)
edge_of order places edges from to once p b =
    let edge = slice_index_or edges b.at (0, 0) in
    let source = node_at order places edge.0 once p b.is_from in
    let target = node_at order places edge.1 once p b.is_to in (
      subst (λ (k : ℕ). k < length order) b.starts source.0,
      edge_at edges b.at (slice_index order from) (slice_index order to) b.short (subst (λ (k : ℕ). slice_index order k ≡ edge.0) b.starts source.1) (subst (λ (k : ℕ). slice_index order k ≡ edge.1) b.ends target.1),
    )

cause_of : (order places ends : List ℕ) (edges : List (ℕ × ℕ)) (head : ℕ) → ListsOnce (length places) order → ArePlaces order places → IsCausedSo places ends edges head → HasCause order ends edges head
cause_of order places ends edges head once p c =
    let e = edge_of order places edges c.place head once p c.cause in
    record { place = c.place; behind = c.behind; within = c.within; short = e.0; edge = e.1 }

last_of : (order places ends : List ℕ) (edges : List (ℕ × ℕ)) (head : ℕ) → ListsOnce (length places) order → ArePlaces order places → IsCausedSo places ends edges head → HasLast order ends edges head
last_of order places ends edges head once p c =
    let e = edge_of order places edges c.last c.target once p c.back in
    record { last = c.last; is_last = c.is_last; short = e.0; target = c.target; from = c.from; before = c.before; edge = e.1 }

pub all_caused : (nodes : ℕ) (given order given' places ends : List ℕ) (edges : List (ℕ × ℕ)) → ListsOnce nodes order → length places ≡ length given → given ≡ order → given' ≡ places → ArePlaces given places → AreCausedSo given' ends edges → AreCaused order ends edges × AreTight order ends edges
all_caused nodes given order given' places ends edges once long same same' p known =
    let nodes_long : nodes ≡ length places = omega (arith, once.long, long, ap length same) in
    let once' : ListsOnce (length places) order = subst (λ (m : ℕ). ListsOnce m order) nodes_long once in
    let p' : ArePlaces order places = subst (λ (o : List ℕ). ArePlaces o places) same p in
    let known' : AreCausedSo places ends edges = subst (λ (q : List ℕ). AreCausedSo q ends edges) same' known in
    (λ head short past. cause_of order places ends edges head once' p' (known' head past), λ head short past. last_of order places ends edges head once' p' (known' head past))

-- ---- what the lists of an answer are

pub carried : {T E : Type 0} (r : Result T E) (f : T → List ℕ) (P : List ℕ → Type 0) (given known : List ℕ) → IfOk r (λ v. f v ≡ given) → given ≡ known → P known → IfOk r (λ v. P (f v))
carried (Ok v) f P given known made same holds = subst P (sym (made ∙ same)) holds
carried (Err x) f P given known made same holds = tt

pub both_carried : {T E : Type 0} (r : Result T E) (f g : T → List ℕ) (P : List ℕ → List ℕ → Type 0) (given known given' known' : List ℕ) → IfOk r (λ v. f v ≡ given) → given ≡ known → IfOk r (λ v. g v ≡ given') → given' ≡ known' → P known known' → IfOk r (λ v. P (f v) (g v))
both_carried (Ok v) f g P given known given' known' made same made' same' holds = subst (λ (l : List ℕ). P l (g v)) (sym (made ∙ same)) (subst (P known) (sym (made' ∙ same')) holds)
both_carried (Err x) f g P given known given' known' made same made' same' holds = tt

pub once_itself : (nodes : ℕ) (given order : List ℕ) → given ≡ order → ListsOnce nodes order → ListsOnce (length given) given
once_itself nodes given order same once = rw same (subst (λ (n : ℕ). ListsOnce n order) (sym once.long) once)

pub ordered : (nodes : ℕ) (given order given' places ends : List ℕ) (edges : List (ℕ × ℕ)) → ListsOnce nodes order → length places ≡ length given → given ≡ order → given' ≡ places → ArePlaces given places → All (IsHeld given' ends) edges → All (Follows order ends) edges
ordered nodes given order given' places ends edges once long same same' p held =
    let nodes_long : nodes ≡ length places = omega (arith, once.long, long, ap length same) in
    all_follow order places ends edges (subst (λ (m : ℕ). All (λ n. n < m) order) nodes_long once.within) (subst (λ (o : List ℕ). ArePlaces o places) same p) (subst (λ (q : List ℕ). All (IsHeld q ends) edges) same' held)
