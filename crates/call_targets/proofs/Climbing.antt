-- Walks up from a type.
use Rattle.std.proofs.Common.{◌≡◌, ℕ, zero, suc, ◌+◌, ◌<◌, ◌≤◌, ◌⊎◌, inl, inr, Bool, true, false, List, [], ◌∷◌, ◌++◌, length, take, get_or, sym, ap, subst, ◌∙◌, arith, Some, None}
use Rattle.std.specs.Prelude.{slice_index_or, Contains, vec_len}
use Rattle.std.proofs.lemmas.List.{take_more, take_all}
use Rattle.std.proofs.lemmas.List.Elements.{Contains-push, Contains-push_cases, Contains-append_left, Contains-append_right}
use Rattle.program_model.specs.declared.program.Program.{Program}
use Rattle.call_targets.specs.declared.marks.Marks.{Marks}
use Rattle.call_targets.specs.Marks.{Keeps, Pops, IsUnmarked, WaitsFrom}
use Rattle.call_graph.specs.Above.{above_kinds, Climbs, IsFrom, AllFrom}
use Rattle.call_targets.specs.Walking.{is_met, is_marked, IsClean, IsWalking, IsWalked, HasFrom}
use Rattle.call_targets.proofs.Contained.{none_in, only_in, first_or}
use Rattle.call_targets.proofs.Growth.{pop_some, pop_none}

pub marked_both : (m m' : Marks) (x : ℕ) (xs : List ℕ) → is_met m x ≡ true → Keeps m m' → ((u : ℕ) → Contains xs u → is_met m' u ≡ true) → (u : ℕ) → Contains (x ∷ xs) u → is_met m' u ≡ true
marked_both m m' x xs one k more u c = elim (first_or x xs u c) [ inl e ↦ k.reached u (subst (λ n. is_met m n ≡ true) e one) | inr e ↦ more u e ]

-- one more number of a list is marked
pub marked_at : (m m' : Marks) (xs : List ℕ) (i d : ℕ) → Keeps m m' → ((n : ℕ) → Contains (take i xs) n → is_met m n ≡ true) → i < length xs → is_met m' (get_or xs i d) ≡ true → (n : ℕ) → Contains (take (i + 1) xs) n → is_met m' n ≡ true
marked_at m m' xs i d k so_far lt one n c = elim (Contains-push_cases (take i xs) (get_or xs i d) n (subst (λ l. Contains l n) (take_more xs i d lt) c)) [
  | inl e ↦ k.reached n (so_far n e)
  | inr s ↦ subst (λ z. is_met m' z ≡ true) s one
]

pub marked_all : (m : Marks) (xs : List ℕ) (i : ℕ) → length xs ≤ i → ((n : ℕ) → Contains (take i xs) n → is_met m n ≡ true) → (n : ℕ) → Contains xs n → is_met m n ≡ true
marked_all m xs i le r n c = r n (subst (λ l. Contains l n) (sym (take_all i xs le)) c)

-- what waits comes from a list
pub waits_none : (m : Marks) (xs : List ℕ) → WaitsFrom m m xs
waits_none m xs = record { each = λ n i. inl i }

pub waits_at : (a b c : Marks) (xs : List ℕ) (i d : ℕ) → WaitsFrom a b (take i xs) → i < length xs → WaitsFrom b c (get_or xs i d ∷ []) → vec_len c.marks ≡ vec_len b.marks → WaitsFrom a c (take (i + 1) xs)
waits_at a b c xs i d f lt g long = record {
  each = λ n w. elim (g.each n w) [
    | inl e ↦ elim (f.each n e) [ inl h ↦ inl h | inr h ↦ inr (subst (λ l. Contains l n) (sym (take_more xs i d lt)) (Contains-append_left (take i xs) (get_or xs i d ∷ []) n h.0), (let z = h.1 in omega (arith, z, long))) ]
    | inr e ↦ inr (subst (λ l. Contains l n) (sym (take_more xs i d lt)) (Contains-append_right (take i xs) (get_or xs i d ∷ []) n e.0), e.1)
  ];
}

pub waits_all : (a b : Marks) (xs : List ℕ) (i : ℕ) → WaitsFrom a b (take i xs) → length xs ≤ i → WaitsFrom a b xs
waits_all a b xs i f le = subst (WaitsFrom a b) (take_all i xs le) f

pub waits_both : (a b c : Marks) (x : ℕ) (xs : List ℕ) → WaitsFrom a b (x ∷ []) → WaitsFrom b c xs → vec_len c.marks ≡ vec_len b.marks → WaitsFrom a c (x ∷ xs)
waits_both a b c x xs f g long = record {
  each = λ n w. elim (g.each n w) [
    | inl e ↦ elim (f.each n e) [ inl h ↦ inl h | inr h ↦ inr (Contains-append_left (x ∷ []) xs n h.0, (let z = h.1 in omega (arith, z, long))) ]
    | inr e ↦ inr (Contains-append_right (x ∷ []) xs n e.0, e.1)
  ];
}

-- one more number of a list is unmarked
pub unmarked_at : (first m m' : Marks) (xs : List ℕ) (i d : ℕ) → ((n : ℕ) → is_marked m n ≡ true → (is_marked first n ≡ true) × (Contains (take i xs) n → ⊥)) → i < length xs → IsUnmarked m m' (get_or xs i d) → (n : ℕ) → is_marked m' n ≡ true → (is_marked first n ≡ true) × (Contains (take (i + 1) xs) n → ⊥)
unmarked_at first m m' xs i d so_far lt u n h = let e = u.unmarked n h in let f = so_far n e.0 in
    (f.0, λ c. elim (Contains-push_cases (take i xs) (get_or xs i d) n (subst (λ l. Contains l n) (take_more xs i d lt) c)) [ inl g ↦ f.1 g | inr s ↦ e.1 (sym s) ])

pub unmarked_all : (first m : Marks) (xs : List ℕ) (i : ℕ) → length xs ≤ i → ((n : ℕ) → is_marked m n ≡ true → (is_marked first n ≡ true) × (Contains (take i xs) n → ⊥)) → (n : ℕ) → is_marked m n ≡ true → (is_marked first n ≡ true) × (Contains xs n → ⊥)
unmarked_all first m xs i le r n h = let f = r n h in (f.0, λ c. f.1 (subst (λ l. Contains l n) (sym (take_all i xs le)) c))

pub unmarked_none : (m : Marks) (xs : List ℕ) (n : ℕ) → is_marked m n ≡ true → (is_marked m n ≡ true) × (Contains (take 0 xs) n → ⊥)
unmarked_none m xs n h = (h, λ c. none_in n c)

-- ---- a walk

pub walk_begins : (p : Program) (m : Marks) → ((n : ℕ) → is_marked m n ≡ true → Contains m.waiting.items n) → IsWalking p m []
walk_begins p m all = record { marked = λ n h. inl (all n h); above = λ n u c a. absurd (none_in n c) }

-- a number is taken and listed, and what stands above it is marked
pub walk_on : (p : Program) (a b c : Marks) (out : List ℕ) (one : ℕ) → IsWalking p a out → Pops a b (Some one) → Keeps b c → ((u : ℕ) → Contains (above_kinds p one) u → is_met c u ≡ true) → IsWalking p c (out ++ one ∷ [])
walk_on p a b c out one w pops keeps met = record { marked = marked; above = above }
  where
    same : (n : ℕ) → is_marked b n ≡ true → is_marked a n ≡ true
    same n h = sym (ap (λ v. slice_index_or v.items n false) pops.same) ∙ h

    taken : (n : ℕ) → Contains a.waiting.items n → Contains c.waiting.items n ⊎ Contains (out ++ one ∷ []) n
    taken n k = elim (pop_some a b one pops n k) [
      | inl e ↦ inr (subst (Contains (out ++ one ∷ [])) (sym e) (Contains-push out one))
      | inr k' ↦ inl (keeps.waits n k')
    ]

    marked : (n : ℕ) → is_marked c n ≡ true → Contains c.waiting.items n ⊎ Contains (out ++ one ∷ []) n
    marked n h = elim (keeps.new n h) [
      | inl e ↦ elim (w.marked n (same n e)) [ inl k ↦ taken n k | inr k ↦ inr (Contains-append_left out (one ∷ []) n k) ]
      | inr k ↦ inl k
    ]

    still : (u : ℕ) → is_met a u ≡ true → is_met c u ≡ true
    still u h = keeps.reached u (ap (λ v. slice_index_or v.items u true) pops.same ∙ h)

    above : (n u : ℕ) → Contains (out ++ one ∷ []) n → Contains (above_kinds p n) u → is_met c u ≡ true
    above n u k i = elim (Contains-push_cases out one n k) [
      | inl e ↦ still u (w.above n u e i)
      | inr e ↦ met u (subst (λ z. Contains (above_kinds p z) u) (sym e) i)
    ]

pub walk_ends : (p : Program) (a b : Marks) (out : List ℕ) → IsWalking p a out → Pops a b None → IsWalked p b out
walk_ends p a b out w pops = record {
  marked = λ n h. elim (w.marked n (sym (ap (λ v. slice_index_or v.items n false) pops.same) ∙ h)) [ inl k ↦ absurd (pop_none a b pops n k) | inr k ↦ k ];
  above = λ n u k i. ap (λ v. slice_index_or v.items u true) pops.same ∙ w.above n u k i;
}

-- ---- what a walk has met

marked_so : (l : List Bool) (n : ℕ) → n < length l → slice_index_or l n true ≡ true → slice_index_or l n false ≡ true
marked_so [] n lt h = absurd (omega (arith, lt))
marked_so (b ∷ bs) zero lt h = h
marked_so (b ∷ bs) (suc n) lt h = marked_so bs n (omega (arith, lt)) h

pub listed_so : (p : Program) (m : Marks) (out : List ℕ) (n : ℕ) → IsWalked p m out → n < length m.marks.items → is_met m n ≡ true → Contains out n
listed_so p m out n w lt h = w.marked n (marked_so m.marks.items n lt h)

climbed : (p : Program) (m : Marks) (out : List ℕ) → IsWalked p m out → length m.marks.items ≡ length p.types → (kind u : ℕ) → Climbs p kind u → is_met m kind ≡ true → u < length p.types → Contains out u
climbed p m out w long kind u (Climbs.Itself x) h lt = listed_so p m out kind w (omega (arith, lt, long)) h
climbed p m out w long kind u (Climbs.Through x next y l c more) h lt = climbed p m out w long next u more (w.above kind next (listed_so p m out kind w (omega (arith, l, long)) h) c) lt

-- the marks of a type and of another one that waits with it
pub both_wait : (a b c : Marks) → IsClean a → Keeps a b → Keeps b c → (n : ℕ) → is_marked c n ≡ true → Contains c.waiting.items n
both_wait a b c clean f g n h = elim (g.new n h) [
  | inl e ↦ elim (f.new n e) [ inl d ↦ absurd (clean.unmarked n d) | inr w ↦ g.waits n w ]
  | inr w ↦ w
]

pub climb_from : (p : Program) (c d : Marks) (object kind : ℕ) (out : List ℕ) → is_met c object ≡ true → is_met c kind ≡ true → ((n : ℕ) → is_met c n ≡ true → is_met d n ≡ true) → length d.marks.items ≡ length p.types → IsWalked p d out
    → HasFrom p object kind out
climb_from p c d object kind out g h met long w u (inl climbs) lt = climbed p d out w long object u climbs (met object g) lt
climb_from p c d object kind out g h met long w u (inr climbs) lt = climbed p d out w long kind u climbs (met kind h) lt

-- all marks of a walk are taken away
pub clean_again : (p : Program) (d e : Marks) (out : List ℕ) → IsWalked p d out → d.waiting.items ≡ [] → e.waiting ≡ d.waiting
    → ((n : ℕ) → is_marked e n ≡ true → (is_marked d n ≡ true) × (Contains out n → ⊥)) → IsClean e
clean_again p d e out w idle same gone = record {
  unmarked = λ n h. let f = gone n h in f.1 (w.marked n f.0);
  idle = ap (λ v. v.items) same ∙ idle;
}

-- ---- where what is met comes from

climb_step : (p : Program) (a b c : ℕ) → Climbs p a b → b < length p.types → Contains (above_kinds p b) c → Climbs p a c
climb_step p a b c (Climbs.Itself x) lt i = Climbs.Through a c c lt i (Climbs.Itself c)
climb_step p a b c (Climbs.Through x next y l j more) lt i = Climbs.Through a next c l j (climb_step p next b c more lt i)

from_step : (p : Program) (x y b c : ℕ) → IsFrom p x y b → b < length p.types → Contains (above_kinds p b) c → IsFrom p x y c
from_step p x y b c f lt i = elim f [ inl e ↦ inl (climb_step p x b c e lt i) | inr e ↦ inr (climb_step p y b c e lt i) ]

pub from_begins : (p : Program) (m : Marks) (x y : ℕ) → AllFrom p x y m.waiting.items → AllFrom p x y m.waiting.items × AllFrom p x y []
from_begins p m x y f = (f, λ n i. absurd (none_in n i))

-- a number is taken and listed, and what stands above it waits
pub from_on : (p : Program) (a b c : Marks) (out : List ℕ) (one x y : ℕ) → vec_len c.marks ≡ length p.types → AllFrom p x y a.waiting.items → AllFrom p x y out → Pops a b (Some one) → WaitsFrom b c (above_kinds p one)
    → AllFrom p x y c.waiting.items × AllFrom p x y (out ++ one ∷ [])
from_on p a b c out one x y long waits listed pops from = (
  λ n i. elim (from.each n i) [
    | inl e ↦ (let f = waits n (subst (λ l. Contains l n) (sym pops.taken) (Contains-append_left b.waiting.items (one ∷ []) n e)) in (f.0, f.1))
    | inr e ↦ (from_step p x y one n first.0 first.1 e.0, (let z = e.1 in omega (arith, z, long)))
  ],
  λ n i. elim (Contains-push_cases out one n i) [ inl e ↦ listed n e | inr e ↦ subst (λ z. IsFrom p x y z × (z < length p.types)) e first ],
)
  where
    first : IsFrom p x y one × (one < length p.types)
    first = waits one (subst (λ l. Contains l one) (sym pops.taken) (Contains-push b.waiting.items one))

-- two types wait at the start
pub both_from : (p : Program) (a b c : Marks) (x y : ℕ) → vec_len c.marks ≡ length p.types → IsClean a → WaitsFrom a c (x ∷ y ∷ []) → AllFrom p x y c.waiting.items
both_from p a b c x y long clean from n i = elim (from.each n i) [
  | inl e ↦ absurd (none_in n (subst (λ l. Contains l n) clean.idle e))
  | inr e ↦ (
    elim (first_or x (y ∷ []) n e.0) [
      | inl s ↦ inl (subst (Climbs p x) s (Climbs.Itself x))
      | inr s ↦ inr (subst (Climbs p y) (only_in y n s) (Climbs.Itself y))
    ],
    (let z = e.1 in omega (arith, z, long)),
  )
]
