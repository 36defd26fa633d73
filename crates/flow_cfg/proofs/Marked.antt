-- Marks, and the places where blocks begin.
use Rattle.std.proofs.Common.{◌≡◌, ℕ, zero, suc, ◌+◌, ◌<◌, ◌≤◌, ◌⊎◌, ◌↔◌, inl, inr, Bool, true, false, if◌then◌else◌, List, [], ◌∷◌, ◌++◌, length, slice_index, slice_index_or, slice_get, set, replicate, take, drop, All, Contains, MatchOption, refl, sym, ap, ◌∙◌, subst, arith, length-set, get_or-set_other, get_or-set_same}
use Rattle.std.specs.List.{flat_map}
use Rattle.std.specs.List.Sorted.{IsStrictlyIncreasing}
use Rattle.std.proofs.lemmas.Bool.{false≢true}
use Rattle.std.proofs.lemmas.List.{take_at, drop_more, length-replicate}
use Rattle.std.proofs.lemmas.List.Elements.{All-nil, All-cons, All-weaker, All-get_or, Contains-append_left, Contains-append_right, Contains-append_cases}
use Rattle.insn_set.specs.declared.form.Insn.{Insn}
use Rattle.insn_set.specs.Flow.{targets_of}
use Rattle.program_model.specs.declared.body.Body.{Body}
use Rattle.flow_cfg.specs.Starts.{IsFirst, ends_block, behind, starts_from, starts_of, regions_starts, marked, places_from}
use Rattle.flow_cfg.proofs.Nested.{at_or_not}
use Rattle.flow_cfg.proofs.Listed.{none_marked}

-- ---- members of a list

there : (x : ℕ) (xs : List ℕ) (p : ℕ) → Contains xs p → Contains (x ∷ xs) p
there x xs p c = (suc c.0, omega (arith, c.1), c.2)

split_at : (x : ℕ) (xs : List ℕ) (p k : ℕ) → k < length (x ∷ xs) → slice_index_or (x ∷ xs) k p ≡ p → (x ≡ p) ⊎ Contains xs p
split_at x xs p zero lt e = inl e
split_at x xs p (suc k) lt e = inr (k, omega (arith, lt), e)

split : (x : ℕ) (xs : List ℕ) (p : ℕ) → Contains (x ∷ xs) p → (x ≡ p) ⊎ Contains xs p
split x xs p c = split_at x xs p c.0 c.1 c.2

none : (p : ℕ) → Contains [] p → ⊥
none p c = omega (arith, c.1)

-- ---- marks

short : (ms : List Bool) (p : ℕ) → slice_index_or ms p false ≡ true → p < length ms
short [] p h = absurd (false≢true h)
short (m ∷ ms) zero h = omega arith
short (m ∷ ms) (suc p) h = omega (arith, short ms p h)

set_here : (ms : List Bool) (q p : ℕ) → p ≡ q → q < length ms → slice_index_or (set ms q true) p false ≡ true
set_here ms q p same lt = rw (same, get_or-set_same ms q true false lt) refl

set_kept : (ms : List Bool) (q p : ℕ) → slice_index_or ms p false ≡ true → slice_index_or (set ms q true) p false ≡ true
set_kept ms q p h = elim (at_or_not p q) [
  | inl same ↦ set_here ms q p same (omega (arith, short ms p h, same))
  | inr other ↦ get_or-set_other ms q p true false other ∙ h
]

marked_kept : (ms : List Bool) (ps : List ℕ) (p : ℕ) → slice_index_or ms p false ≡ true → slice_index_or (marked ms ps) p false ≡ true
marked_kept ms [] p h = h
marked_kept ms (q ∷ ps) p h = marked_kept (set ms q true) ps p (set_kept ms q p h)

marked_here : (ms : List Bool) (ps : List ℕ) (p : ℕ) → p < length ms → Contains ps p → slice_index_or (marked ms ps) p false ≡ true
marked_here ms [] p lt c = absurd (none p c)
marked_here ms (q ∷ ps) p lt c = elim (split q ps p c) [
  | inl same ↦ marked_kept (set ms q true) ps p (set_here ms q p (sym same) (omega (arith, lt, same)))
  | inr later ↦ marked_here (set ms q true) ps p (omega (arith, lt, length-set ms q true)) later
]

marked_only : (ms : List Bool) (ps : List ℕ) (p : ℕ) → slice_index_or (marked ms ps) p false ≡ true → (slice_index_or ms p false ≡ true) ⊎ ((p < length ms) × Contains ps p)
marked_only ms [] p h = inl h
marked_only ms (q ∷ ps) p h = elim (marked_only (set ms q true) ps p h) [
  | inl now ↦ elim (at_or_not p q) [
    | inl same ↦ inr (omega (arith, short (set ms q true) p now, length-set ms q true), (0, omega arith, sym same))
    | inr other ↦ inl (sym (get_or-set_other ms q p true false other) ∙ now)
  ]
  | inr later ↦ inr (omega (arith, later.0, length-set ms q true), there q ps p later.1)
]

pub length_marked : (ms : List Bool) (ps : List ℕ) → length (marked ms ps) ≡ length ms
length_marked ms [] = refl
length_marked ms (p ∷ ps) = length_marked (set ms p true) ps ∙ length-set ms p true

pub marks_more : (ms new slice : List Bool) (ps : List ℕ) (i len : ℕ) (all : List Bool) → length new ≡ len → slice ≡ ms → new ≡ set slice (slice_index ps i) true → i < length ps → marked ms (drop i ps) ≡ all
    → marked (take len (new ++ drop (length new) ms)) (drop (i + 1) ps) ≡ all
marks_more ms new slice ps i len all long same is lt so_far =
    let now : take len (new ++ drop (length new) ms) ≡ set ms (slice_index ps i) true = take_at new (drop (length new) ms) len long ∙ is ∙ ap (λ (l : List Bool). set l (slice_index ps i) true) same in
    let rest : drop i ps ≡ slice_index ps i ∷ drop (i + 1) ps = drop_more ps i 0 lt in
    ap (λ (l : List Bool). marked l (drop (i + 1) ps)) now ∙ ap (λ (l : List ℕ). marked ms l) (sym rest) ∙ so_far

-- ---- places

place_at : (ms : List Bool) (at k : ℕ) → slice_index_or ms k false ≡ true → Contains (places_from at ms) (at + k)
place_at [] at k h = absurd (false≢true h)
place_at (true ∷ ms) at zero h = (0, omega arith, omega arith)
place_at (false ∷ ms) at zero h = absurd (false≢true h)
place_at (true ∷ ms) at (suc k) h =
    let e : suc at + k ≡ at + suc k = omega arith in
    there at (places_from (suc at) ms) (at + suc k) (subst (λ (p : ℕ). Contains (places_from (suc at) ms) p) e (place_at ms (suc at) k h))
place_at (false ∷ ms) at (suc k) h =
    let e : suc at + k ≡ at + suc k = omega arith in
    subst (λ (p : ℕ). Contains (places_from (suc at) ms) p) e (place_at ms (suc at) k h)

place_only : (ms : List Bool) (at p : ℕ) → Contains (places_from at ms) p → (k : ℕ) × (p ≡ at + k) × (slice_index_or ms k false ≡ true)
place_only [] at p c = absurd (none p c)
place_only (true ∷ ms) at p c = elim (split at (places_from (suc at) ms) p c) [
  | inl same ↦ (0, omega (arith, same), refl)
  | inr later ↦ (let w = place_only ms (suc at) p later in (suc w.0, omega (arith, w.1), w.2))
]
place_only (false ∷ ms) at p c = let w = place_only ms (suc at) p c in (suc w.0, omega (arith, w.1), w.2)

above : (ms : List Bool) (at : ℕ) → All (λ p. at ≤ p) (places_from at ms)
above [] at = All-nil (λ p. at ≤ p)
above (true ∷ ms) at = All-cons (λ p. at ≤ p) at (places_from (suc at) ms) (omega arith) (All-weaker (λ p. suc at ≤ p) (λ p. at ≤ p) (λ p le. omega (arith, le)) (places_from (suc at) ms) (above ms (suc at)))
above (false ∷ ms) at = All-weaker (λ p. suc at ≤ p) (λ p. at ≤ p) (λ p le. omega (arith, le)) (places_from (suc at) ms) (above ms (suc at))

rising : (ms : List Bool) (at k : ℕ) → suc k < length (places_from at ms) → slice_index (places_from at ms) k < slice_index (places_from at ms) (suc k)
rising [] at k lt = absurd (omega (arith, lt))
rising (true ∷ ms) at zero lt = omega (arith, All-get_or (λ p. suc at ≤ p) (places_from (suc at) ms) 0 0 (omega (arith, lt)) (above ms (suc at)))
rising (true ∷ ms) at (suc k) lt = rising ms (suc at) k (omega (arith, lt))
rising (false ∷ ms) at k lt = rising ms (suc at) k lt

pub places_rise : (ms : List Bool) → IsStrictlyIncreasing (places_from 0 ms)
places_rise ms = λ k lt. let e : k + 1 ≡ suc k = omega arith in rw e (rising ms 0 k (omega (arith, lt)))

-- ---- where blocks begin

behind_if : (b : Bool) (at p : ℕ) → Contains (if b then (at + 1) ∷ [] else []) p → (p ≡ at + 1) × (b ≡ true)
behind_if true at p c = elim (split (at + 1) [] p c) [ inl same ↦ (sym same, refl) | inr later ↦ absurd (none p later) ]
behind_if false at p c = absurd (none p c)

behind_then : (b : Bool) (at : ℕ) → b ≡ true → Contains (if b then (at + 1) ∷ [] else []) (at + 1)
behind_then true at e = (0, omega arith, refl)
behind_then false at e = absurd (false≢true e)

-- behind an instruction of a list that begins at this position
abbrev BehindFrom : ℕ → List Insn → ℕ → Type 0
BehindFrom at insns p = (q : ℕ) × (p ≡ at + q + 1) × MatchOption (slice_get insns q) ⊥ (λ insn. ends_block insn ≡ true)

start_only : (insns : List Insn) (at p : ℕ) → Contains (starts_from at insns) p → Contains (flat_map targets_of insns) p ⊎ BehindFrom at insns p
start_only [] at p c = absurd (none p c)
start_only (insn ∷ insns) at p c = elim (Contains-append_cases (targets_of insn ++ behind at insn) (starts_from (suc at) insns) p c) [
  | inl here ↦ elim (Contains-append_cases (targets_of insn) (behind at insn) p here) [
    | inl target ↦ inl (Contains-append_left (targets_of insn) (flat_map targets_of insns) p target)
    | inr past ↦ (let w = behind_if (ends_block insn) at p past in inr (0, omega (arith, w.0), w.1))
  ]
  | inr later ↦ elim (start_only insns (suc at) p later) [
    | inl target ↦ inl (Contains-append_right (targets_of insn) (flat_map targets_of insns) p target)
    | inr past ↦ inr (suc past.0, omega (arith, past.1), past.2)
  ]
]

target_starts : (insns : List Insn) (at p : ℕ) → Contains (flat_map targets_of insns) p → Contains (starts_from at insns) p
target_starts [] at p c = absurd (none p c)
target_starts (insn ∷ insns) at p c = elim (Contains-append_cases (targets_of insn) (flat_map targets_of insns) p c) [
  | inl here ↦ Contains-append_left (targets_of insn ++ behind at insn) (starts_from (suc at) insns) p (Contains-append_left (targets_of insn) (behind at insn) p here)
  | inr later ↦ Contains-append_right (targets_of insn ++ behind at insn) (starts_from (suc at) insns) p (target_starts insns (suc at) p later)
]

behind_starts : (insns : List Insn) (at p q : ℕ) → p ≡ at + q + 1 → MatchOption (slice_get insns q) ⊥ (λ insn. ends_block insn ≡ true) → Contains (starts_from at insns) p
behind_starts [] at p q e m = absurd m
behind_starts (insn ∷ insns) at p zero e m =
    let same : at + 1 ≡ p = omega (arith, e) in
    Contains-append_left (targets_of insn ++ behind at insn) (starts_from (suc at) insns) p (Contains-append_right (targets_of insn) (behind at insn) p (subst (λ (r : ℕ). Contains (behind at insn) r) same (behind_then (ends_block insn) at m)))
behind_starts (insn ∷ insns) at p (suc q) e m = Contains-append_right (targets_of insn ++ behind at insn) (starts_from (suc at) insns) p (behind_starts insns (suc at) p q (omega (arith, e)) m)

first_from : (b : Body) (p : ℕ) → (p < length b.insns) × Contains (starts_of b) p → IsFirst b p
first_from b p c = elim (Contains-append_cases (0 ∷ starts_from 0 b.insns) (regions_starts b.regions) p c.1) [
  | inl code ↦ elim (split 0 (starts_from 0 b.insns) p code) [
    | inl same ↦ (c.0, inl (sym same))
    | inr later ↦ elim (start_only b.insns 0 p later) [
      | inl target ↦ (c.0, inr (inl target))
      | inr past ↦ (c.0, inr (inr (inr (past.0, omega (arith, past.1), past.2))))
    ]
  ]
  | inr handler ↦ (c.0, inr (inr (inl handler)))
]

in_code : (b : Body) (p : ℕ) → Contains (starts_from 0 b.insns) p → Contains (starts_of b) p
in_code b p c = Contains-append_left (0 ∷ starts_from 0 b.insns) (regions_starts b.regions) p (there 0 (starts_from 0 b.insns) p c)

first_to : (b : Body) (p : ℕ) → IsFirst b p → Contains (starts_of b) p
first_to b p f = elim f.1 [
  | inl same ↦ Contains-append_left (0 ∷ starts_from 0 b.insns) (regions_starts b.regions) p (0, omega arith, sym same)
  | inr more ↦ elim more [
    | inl target ↦ in_code b p (target_starts b.insns 0 p target)
    | inr rest ↦ elim rest [
      | inl handler ↦ Contains-append_right (0 ∷ starts_from 0 b.insns) (regions_starts b.regions) p handler
      | inr past ↦ in_code b p (behind_starts b.insns 0 p past.0 (omega (arith, past.1)) past.2)
    ]
  ]
]

pub places_first : (b : Body) (p : ℕ) → Contains (places_from 0 (marked (replicate (length b.insns) false) (starts_of b))) p ↔ IsFirst b p
places_first b p = (
  (λ c.
      let w = place_only (marked (replicate (length b.insns) false) (starts_of b)) 0 p c in
      let e : w.0 ≡ p = omega (arith, w.1) in
      let m : slice_index_or (marked (replicate (length b.insns) false) (starts_of b)) p false ≡ true = subst (λ (k : ℕ). slice_index_or (marked (replicate (length b.insns) false) (starts_of b)) k false ≡ true) e w.2 in
      elim (marked_only (replicate (length b.insns) false) (starts_of b) p m) [
        | inl early ↦ absurd (false≢true (sym (none_marked (length b.insns) p) ∙ early))
        | inr now ↦ first_from b p (omega (arith, now.0, length-replicate (length b.insns) false), now.1)
      ]),
  (λ f.
      let e : 0 + p ≡ p = omega arith in
      subst (λ (k : ℕ). Contains (places_from 0 (marked (replicate (length b.insns) false) (starts_of b))) k) e
      (place_at (marked (replicate (length b.insns) false) (starts_of b)) 0 p
      (marked_here (replicate (length b.insns) false) (starts_of b) p (omega (arith, f.0, length-replicate (length b.insns) false)) (first_to b p f)))),
)

pub firsts_are : (b : Body) (firsts : List ℕ) (given marks : List Bool) (given' starts : List ℕ) (count : ℕ) → firsts ≡ places_from 0 given → given ≡ marks → marks ≡ marked (replicate count false) given' → given' ≡ starts → starts ≡ starts_of b → count ≡ length b.insns
    → firsts ≡ places_from 0 (marked (replicate (length b.insns) false) (starts_of b))
firsts_are b firsts given marks given' starts count e1 e2 e3 e4 e5 e6 =
    e1 ∙ ap (λ (l : List Bool). places_from 0 l) (e2 ∙ e3) ∙ ap (λ (l : List ℕ). places_from 0 (marked (replicate count false) l)) (e4 ∙ e5)
    ∙ ap (λ (n : ℕ). places_from 0 (marked (replicate n false) (starts_of b))) e6

pub firsts_rise : (b : Body) (firsts : List ℕ) → firsts ≡ places_from 0 (marked (replicate (length b.insns) false) (starts_of b)) → IsStrictlyIncreasing firsts
firsts_rise b firsts e = subst (λ (l : List ℕ). IsStrictlyIncreasing l) (sym e) (places_rise (marked (replicate (length b.insns) false) (starts_of b)))

pub firsts_begin : (b : Body) (firsts : List ℕ) → firsts ≡ places_from 0 (marked (replicate (length b.insns) false) (starts_of b)) → (p : ℕ) → Contains firsts p ↔ IsFirst b p
firsts_begin b firsts e p = subst (λ (l : List ℕ). Contains l p ↔ IsFirst b p) (sym e) (places_first b p)
