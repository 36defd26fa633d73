-- Flows and their tables.
use Rattle.std.specs.Prelude.{◌≡◌, ℕ, Bool, true, ◌<◌, ◌≤◌, List, length, All, Contains, slice_index_or}

-- nodes and edges, the state in which a node begins, and what an edge makes of a state
pub record Graph (S : Type 0) : Type 0 where
  pub nodes : ℕ
  pub edges : ℕ
  pub source : ℕ → ℕ
  pub target : ℕ → ℕ
  pub begun : ℕ → S
  pub moved : ℕ → S → S

-- each state is at or above its entry and above what every edge into it brings
pub record IsInductive {S : Type 0} (below : S → S → Type 0) (g : Graph S) (t : ℕ → S) : Type 0 where
  pub entries : (n : ℕ) → n < g.nodes → below (g.begun n) (t n)
  pub edges : (e : ℕ) → e < g.edges → below (g.moved e (t (g.source e))) (t (g.target e))

-- edges lie between nodes, transfer grows where the state is exact, and staying is kept
pub record FlowLaws {S : Type 0} (below : S → S → Type 0) (exact : Bool) (least : S) (joined widened : S → S → S) (stays : ℕ → S → Type 0) (g : Graph S) : Type 0 where
  pub ends : (e : ℕ) → e < g.edges → (g.source e < g.nodes) × (g.target e < g.nodes)
  pub grows : exact ≡ true → (e : ℕ) (s t : S) → e < g.edges → below s t → below (g.moved e s) (g.moved e t)
  pub bottom_stays : (n : ℕ) → n < g.nodes → stays n least
  pub entry_stays : (n : ℕ) → n < g.nodes → stays n (g.begun n)
  pub entry_join : (n : ℕ) (s : S) → n < g.nodes → stays n s → stays n (joined s (g.begun n)) × stays n (widened s (g.begun n))
  pub edge_join : (e : ℕ) (s t : S) → e < g.edges → stays (g.target e) s → stays (g.source e) t → stays (g.target e) (joined s (g.moved e t)) × stays (g.target e) (widened s (g.moved e t))

-- at or below every inductive table, where the state is exact
abbrev pub IsLeast : {S : Type 0} → (S → S → Type 0) → Bool → Graph S → (ℕ → S) → Type 0
IsLeast below exact g t = exact ≡ true → (s : ℕ → _) → IsInductive below g s → (n : ℕ) → n < g.nodes → below (t n) (s n)

-- the state of each node, the least one past the end
abbrev pub states_at : {S : Type 0} → S → List S → ℕ → S
states_at least t n = slice_index_or t n least

-- each node stands once in a list
pub record ListsNodes (nodes : ℕ) (list : List ℕ) : Type 0 where
  pub within : All (λ n. n < nodes) list
  pub all : (n : ℕ) → n < nodes → Contains list n
  pub once : length list ≡ nodes

-- each place has an end, past it and at most the length
pub record AreEnds (length_of : ℕ) (ends : List ℕ) : Type 0 where
  pub long : length ends ≡ length_of
  pub past : (p : ℕ) → p < length_of → p < slice_index_or ends p 0
  pub within : (p : ℕ) → p < length_of → slice_index_or ends p 0 ≤ length_of
