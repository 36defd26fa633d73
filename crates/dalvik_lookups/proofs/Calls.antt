-- What is kept of calls.
use Rattle.std.proofs.Common.{Bool, ◌<◌, arith, ◌≡◌, true≢false, ℕ, zero, suc, List, [], ◌∷◌, replicate, length, Option, Some, None, refl, sym, ap, subst, ◌∙◌, inl, inr, ◌⊎◌}
use Rattle.std.specs.Prelude.{slice_get, slice_set, vec_len, is_some, cond}
use Rattle.program_model.specs.declared.pools.MethodName.{MethodName}
use Rattle.program_model.specs.declared.program.Class.{Class}
use Rattle.program_model.specs.declared.program.Program.{Program}
use Rattle.class_defs.specs.Finding.{finds_at, finds_super}
use Rattle.class_defs.proofs.Positions.{PlaceFits, place_entry}
use Rattle.dalvik_defs.specs.Names.{Text, text_eq}
use Rattle.dalvik_defs.specs.Naming.{type_at, named}
use Rattle.dalvik_defs.specs.Under.{is_under}
use Rattle.dalvik_lookups.specs.Tables.{place_named}
use Rattle.dalvik_lookups.specs.declared.finds.Search.{Search}
use Rattle.dalvik_lookups.specs.declared.finds.Search.TheVariants.{Nothing}
use Rattle.dalvik_lookups.specs.declared.memo.Memo.{Memo}
use Rattle.dalvik_lookups.specs.declared.memo.Recent.{Recent}
use Rattle.dalvik_lookups.specs.declared.lookups.Lookups.{Lookups}
use Rattle.dalvik_lookups.specs.Walks.{AreFound, AreFromSuper, IsKept, IsClean, Rests, found_at, search_by, type_of_class}
use Rattle.hierarchy.specs.Walking.{IsFair}

one_of : {X : Type 0} (n i : ℕ) (x y : X) → slice_get (replicate n x) i ≡ Some y → x ≡ y
one_of zero i x y e = absurd (true≢false (sym (ap is_some e)))
one_of (suc n) zero x y e = ap (λ o. elim o [ Some z ↦ z | None ↦ x ]) e
one_of (suc n) (suc i) x y e = one_of n i x y e

-- nothing is kept yet
pub none_found : (l : Lookups) (calls : List Recent) (n : ℕ) → calls ≡ replicate n (record { class = None; found = Nothing }) → AreFound l calls
none_found l calls n e = record { is = λ i c found q h h'. nothing (ap (λ r. r.class) (one_of n i (record { class = None; found = Nothing }) (record { class = Some c; found = found }) (sym (ap (λ v. slice_get v i) e) ∙ h))) }
  where
    nothing : {X : Type 0} {c : ℕ} → None ≡ Some c → X
    nothing e = absurd (true≢false (sym (ap is_some e)))

-- an entry of a list in which one was set
pub set_entry : {X : Type 0} (xs : List X) (i j : ℕ) (x y : X) → slice_get (slice_set xs i x) j ≡ Some y → (slice_get xs j ≡ Some y) ⊎ ((j ≡ i) × (y ≡ x))
set_entry [] i j x y e = inl e
set_entry (z ∷ xs) zero zero x y e = inr (refl, sym (ap (λ o. elim o [ Some w ↦ w | None ↦ y ]) e))
set_entry (z ∷ xs) zero (suc j) x y e = inl e
set_entry (z ∷ xs) (suc i) zero x y e = inl e
set_entry (z ∷ xs) (suc i) (suc j) x y e = elim (set_entry xs i j x y e) [ inl h ↦ inl h | inr h ↦ inr (ap suc h.0, h.1) ]

-- one answer more
pub found_more : (l : Lookups) (calls new : List Recent) (i c : ℕ) (found : Search) → AreFound l calls → new ≡ slice_set calls i (record { class = Some c; found = found })
    → ((q : MethodName) → slice_get l.program.now.methods i ≡ Some q → found ≡ found_at l c q) → AreFound l new
found_more l calls new i c found a e is = record { is = λ j d other q h hq. entry j d other q hq (set_entry calls i j (record { class = Some c; found = found }) (record { class = Some d; found = other }) (sym (ap (λ v. slice_get v j) e) ∙ h)) }
  where
    kept : ℕ → Search → Recent
    kept c found = record { class = Some c; found = found }

    got : {X : Type 0} → X → Option X → X
    got d None = d
    got d (Some x) = x

    entry : (j d : ℕ) (other : Search) (q : MethodName) → slice_get l.program.now.methods j ≡ Some q → (slice_get calls j ≡ Some (record { class = Some d; found = other })) ⊎ ((j ≡ i) × (kept d other ≡ kept c found))
        → other ≡ found_at l d q
    entry j d other q hq (inl h) = a.is j d other q h hq
    entry j d other q hq (inr h) = ap (λ r. r.found) h.1 ∙ is q (sym (ap (slice_get l.program.now.methods) h.0) ∙ hq) ∙ ap (λ n. found_at l n q) (sym (ap (λ r. got 0 r.class) h.1))

pub none_from_super : (p : Program) (calls : List Recent) (n : ℕ) → calls ≡ replicate n (record { class = None; found = Nothing }) → AreFromSuper p calls
none_from_super p calls n e = record { is = λ i c found h. nothing (ap (λ r. r.class) (one_of n i (record { class = None; found = Nothing }) (record { class = Some c; found = found }) (sym (ap (λ v. slice_get v i) e) ∙ h))) }
  where
    nothing : {X : Type 0} {c : ℕ} → None ≡ Some c → X
    nothing e = absurd (true≢false (sym (ap is_some e)))

pub from_super_more : (p : Program) (calls new : List Recent) (i c : ℕ) (found : Search) → AreFromSuper p calls → new ≡ slice_set calls i (record { class = Some c; found = found }) → found ≡ search_by (finds_super p c i) → AreFromSuper p new
from_super_more p calls new i c found a e is = record { is = λ j d other h. entry j d other (set_entry calls i j (record { class = Some c; found = found }) (record { class = Some d; found = other }) (sym (ap (λ v. slice_get v j) e) ∙ h)) }
  where
    kept : ℕ → Search → Recent
    kept c found = record { class = Some c; found = found }

    got : {X : Type 0} → X → Option X → X
    got d None = d
    got d (Some x) = x

    entry : (j d : ℕ) (other : Search) → (slice_get calls j ≡ Some (record { class = Some d; found = other })) ⊎ ((j ≡ i) × (kept d other ≡ kept c found)) → other ≡ search_by (finds_super p d j)
    entry j d other (inl h) = a.is j d other h
    entry j d other (inr h) =
        let same : c ≡ d = sym (ap (λ r. got 0 r.class) h.1) in
        ap (λ r. r.found) h.1 ∙ is ∙ ap (λ n. search_by (finds_super p n i)) same ∙ ap (λ n. search_by (finds_super p d n)) (sym h.0)

-- an answer more is kept, and the rest stays
pub kept_call : (l : Lookups) (m new : Memo) → IsKept l m → Rests m new → AreFound l new.virtual_calls.items → AreFromSuper l.program.now new.super_calls.items → IsKept l new
kept_call l m new k r a s = record {
  fair = subst IsFair (sym r.walk) k.fair;
  long = ap (λ w. length w.seen.items) r.walk ∙ k.long;
  virtuals = a;
  supers = s;
  size = ap (λ w. vec_len w.marks) r.marks ∙ k.size;
  clean = subst IsClean (sym r.marks) k.clean;
  under = λ u b e. k.under u b (sym (ap (λ v. slice_get v.items u) r.under) ∙ e);
}

-- ---- what virtual calls find

pub below : {X : Type 0} (xs : List X) (i : ℕ) (x : X) → slice_get xs i ≡ Some x → i < length xs
below [] i x e = absurd (true≢false (sym (ap is_some e)))
below (y ∷ ys) zero x e = omega arith
below (y ∷ ys) (suc i) x e = omega (arith, below ys i x e)

-- the test of a virtual call, by the texts of its types
asked : (l : Lookups) (c : ℕ) (q : MethodName) (k : Class) (b : Bool) (receiver own : Text) → slice_get l.program.now.classes c ≡ Some k → receiver ≡ type_at l.program.now k.name → own ≡ type_at l.program.now q.class
    → b ≡ is_under (named l.program.now) l.framework.now receiver own → is_under (named l.program.now) l.framework.now (type_of_class l.program.now (slice_get l.program.now.classes c)) (type_at l.program.now q.class) ≡ b
asked l c q k b receiver own hc r o e =
    ap (λ x. is_under (named l.program.now) l.framework.now (type_of_class l.program.now x) (type_at l.program.now q.class)) hc
    ∙ ap (λ x. is_under (named l.program.now) l.framework.now x (type_at l.program.now q.class)) (sym r)
    ∙ ap (is_under (named l.program.now) l.framework.now receiver) (sym o)
    ∙ sym e

pub found_by : (l : Lookups) (c : ℕ) (q : MethodName) (k : Class) (b : Bool) (receiver own : Text) → slice_get l.program.now.classes c ≡ Some k → receiver ≡ type_at l.program.now k.name → own ≡ type_at l.program.now q.class
    → b ≡ is_under (named l.program.now) l.framework.now receiver own → found_at l c q ≡ cond b (search_by (finds_at l.program.now c q.name q.proto)) Nothing
found_by l c q k b receiver own hc r o e = ap (λ x. cond x (search_by (finds_at l.program.now c q.name q.proto)) Nothing) (asked l c q k b receiver own hc r o e)

-- the class at the place of a type has that type
pub class_there : (p : Program) (t : Text) (c : ℕ) → place_named p t ≡ Some c → PlaceFits (λ k. text_eq (type_at p k.name) t) p.classes c
class_there p t c e = place_entry (λ k. text_eq (type_at p k.name) t) p.classes c e
