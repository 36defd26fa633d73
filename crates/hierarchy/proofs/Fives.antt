-- Which keys are of the five methods that every object answers to.
use Rattle.std.proofs.Common.{◌≡◌, ℕ, zero, suc, ◌+◌, ◌<◌, ◌≤◌, inl, inr, Bool, true, false, true≢false, List, [], ◌∷◌, nat_eq, length, Some, replicate, refl, sym, ap, subst, ◌∙◌, arith}
use Rattle.std.specs.Prelude.{◌&&◌, ◌||◌, cond, slice_get, slice_set, slice_index_or}
use Rattle.program_model.specs.declared.pools.MethodName.{MethodName}
use Rattle.program_model.specs.declared.program.Program.{Program}
use Rattle.class_defs.specs.Members.{is_common, type_is, types_are}
use Rattle.hierarchy.specs.Membership.{key_at, method_pair, AreKeys}
use Rattle.hierarchy.specs.declared.build.Hierarchy.{Hierarchy}
use Rattle.hierarchy.specs.Naming.{AreCommon, IsKey}
use Rattle.hierarchy.specs.Shapes.{IsOf}
use Rattle.hierarchy.proofs.Circles.{stays_seen, is_seen_now}
use Rattle.hierarchy.proofs.Indexed.{apart_test}
use Rattle.hierarchy.proofs.Keyed.{got_short}
use Rattle.hierarchy.proofs.Marks.{marked_at, set_size, before_or_at}

and_false : (b : Bool) → (b && false) ≡ false
and_false true = refl
and_false false = refl

pub others_taken : (p : Program) (ks : List ℕ) (t : List ℕ) → (length ks ≡ 1 → ⊥) → nat_eq (length ks) 1 ≡ types_are p ks (t ∷ [])
others_taken p [] t h = refl
others_taken p (k ∷ []) t h = absurd (h refl)
others_taken p (k ∷ l ∷ ks) t h = apart_test (length (k ∷ l ∷ ks)) 1 h ∙ sym (and_false (type_is p k t))

pub none_common : (a b c d e : Bool) → false ≡ ((a && false) || (b && false) || (c && false) || (d && false) || (e && false))
none_common a b c d e = by_all (a && false) (b && false) (c && false) (d && false) (e && false) (and_false a) (and_false b) (and_false c) (and_false d) (and_false e)
  where
    by_all : (v w x y z : Bool) → v ≡ false → w ≡ false → x ≡ false → y ≡ false → z ≡ false → false ≡ (v || w || x || y || z)
    by_all true w x y z f g h i j = absurd (true≢false f)
    by_all false true x y z f g h i j = absurd (true≢false g)
    by_all false false true y z f g h i j = absurd (true≢false h)
    by_all false false false true z f g h i j = absurd (true≢false i)
    by_all false false false false true f g h i j = absurd (true≢false j)
    by_all false false false false false f g h i j = refl

-- a method of the five that has this key
pub record HasKey (p : Program) (methods : List MethodName) (keys : List ℕ) (key : ℕ) : Type 0 where
  pub number : ℕ
  pub entry : MethodName
  pub is : slice_get methods number ≡ Some entry
  pub common : is_common p entry.name entry.proto ≡ true
  pub keyed : key_at keys number ≡ key

-- so many methods are marked
pub record CommonSoFar (p : Program) (methods : List MethodName) (keys : List ℕ) (marks : List Bool) (done : ℕ) : Type 0 where
  pub on : (i : ℕ) (x : MethodName) → i < done → slice_get methods i ≡ Some x → is_common p x.name x.proto ≡ true → key_at keys i < length marks → slice_index_or marks (key_at keys i) false ≡ true
  pub off : (c : ℕ) → slice_index_or marks c false ≡ true → HasKey p methods keys c

none_on : (n c : ℕ) → slice_index_or (replicate n false) c false ≡ true → ⊥
none_on zero c e = true≢false (sym e)
none_on (suc n) zero e = true≢false (sym e)
none_on (suc n) (suc c) e = none_on n c e

pub common_none : (p : Program) (methods : List MethodName) (keys : List ℕ) (marks : List Bool) (count : ℕ) → marks ≡ replicate count false → CommonSoFar p methods keys marks 0
common_none p methods keys marks count e = record { on = λ i x lt. absurd (omega (arith, lt)); off = λ c s. absurd (none_on count c (ap (λ l. slice_index_or l c false) (sym e) ∙ s)) }

pub common_more : (p : Program) (methods : List MethodName) (keys : List ℕ) (marks more : List Bool) (done key : ℕ) (x : MethodName) (on : Bool) → slice_get methods done ≡ Some x → key ≡ key_at keys done → on ≡ is_common p x.name x.proto
    → more ≡ cond on (slice_set marks key true) marks → CommonSoFar p methods keys marks done → CommonSoFar p methods keys more (done + 1)
common_more p methods keys marks more done key x true got k c m s = subst (λ l. CommonSoFar p methods keys l (done + 1)) (sym m) (record {
  on = λ i y lt e common short. elim (before_or_at i done lt) [
    | inl l ↦ stays_seen marks key (key_at keys i) (s.on i y l e common (let z = set_size marks key true in omega (arith, z, short)))
    | inr same ↦ let here : key_at keys i ≡ key = ap (key_at keys) same ∙ sym k in
        ap (λ c. slice_index_or (slice_set marks key true) c false) here ∙ is_seen_now marks key (let z = set_size marks key true in omega (arith, z, short, here))
  ];
  off = λ c e. elim (marked_at marks key c e) [
    | inl same ↦ record { number = done; entry = x; is = got; common = sym c_is; keyed = sym k ∙ sym same }
    | inr old ↦ s.off c old
  ];
})
  where
    c_is : true ≡ is_common p x.name x.proto
    c_is = c
common_more p methods keys marks more done key x false got k c m s = subst (λ l. CommonSoFar p methods keys l (done + 1)) (sym m) (record {
  on = λ i y lt e common short. elim (before_or_at i done lt) [
    | inl l ↦ s.on i y l e common short
    | inr same ↦ let z : Some x ≡ Some y = sym got ∙ ap (slice_get methods) (sym same) ∙ e in
        let w : x ≡ y = cc in
        absurd (true≢false (sym common ∙ ap (λ v. is_common p v.name v.proto) (sym w) ∙ sym c))
  ];
  off = s.off;
})

same_common : (p : Program) (a b : MethodName) → method_pair a ≡ method_pair b → is_common p a.name a.proto ≡ is_common p b.name b.proto
same_common p a b e = ap (λ (q : ℕ × ℕ). is_common p q.0 q.1) e

pub all_common : (p : Program) (methods : List MethodName) (keys : List ℕ) (marks : List Bool) (done count : ℕ) → length methods ≤ done → length marks ≡ count → AreKeys method_pair methods keys count → CommonSoFar p methods keys marks done → AreCommon p methods keys marks
all_common p methods keys marks done count all size k s = record { at = λ i x e. by_test i x e (is_common p x.name x.proto) refl (slice_index_or marks (key_at keys i) false) refl }
  where
    by_test : (i : ℕ) (x : MethodName) → slice_get methods i ≡ Some x → (b : Bool) → is_common p x.name x.proto ≡ b → (m : Bool) → slice_index_or marks (key_at keys i) false ≡ m → m ≡ b
    by_test i x e true f m g = sym g ∙ s.on i x (let l = got_short methods i x e in omega (arith, l, all)) e f (let b = k.below i x e in omega (arith, b, size))
    by_test i x e false f false g = refl
    by_test i x e false f true g =
        let h = s.off (key_at keys i) g in
        sym h.common ∙ same_common p h.entry x (k.one h.number i h.entry x h.is e h.keyed) ∙ f

pub key_common : (p : Program) (h : Hierarchy) (key name proto : ℕ) → IsOf p h → IsKey p h key name proto → slice_index_or h.named.of_object.items key false ≡ is_common p name proto
key_common p h key name proto is k =
    ap (λ c. slice_index_or h.named.of_object.items c false) k.keyed ∙ is.named.common.at k.number k.entry k.is ∙ ap (λ n. is_common p n k.entry.proto) k.name_is ∙ ap (is_common p name) k.proto_is
