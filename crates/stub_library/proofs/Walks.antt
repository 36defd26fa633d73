-- The walk upwards from a type of the framework, level by level.
use Rattle.std.proofs.Common.{◌≡◌, ℕ, zero, suc, ◌+◌, ◌-◌, ◌<◌, ◌≤◌, inl, inr, Bool, true, false, true≢false, List, [], ◌∷◌, ◌++◌, length, Some, refl, sym, ap, subst, ◌∙◌, arith}
use Rattle.std.specs.Prelude.{◌⊎◌, ◌&&◌, slice_get}
use Rattle.std.specs.List.{flat_map, list_all}
use Rattle.std.proofs.lemmas.List.Folds.{list_all-append}
use Rattle.program_model.specs.Texts.{string_text}
use Rattle.program_model.specs.declared.pools.MethodName.{MethodName}
use Rattle.program_model.specs.declared.program.Program.{Program}
use Rattle.class_defs.proofs.Positions.{same_test, both}
use Rattle.class_defs.proofs.WellFormed.{and_left, and_right}
use Rattle.stub_library.specs.Stubs.{proto_text}
use Rattle.stub_library.specs.Shut.{walk_clear, above_of}
use Rattle.stub_library.specs.Lists.{In}
use Rattle.stub_library.specs.Meeting.{Adds, Meets, MeetsEntry, is_clear, local_clear}
use Rattle.stub_library.specs.declared.library.Library.{Library}
use Rattle.stub_library.specs.declared.declared.Met.{Met}
use Rattle.stub_library.proofs.Lists.{in_left, in_right, in_either, in_flat, from_flat, all_each, all_one}

-- as many levels as there are
abbrev pub most : Library → ℕ
most l = length l.classes + 2

-- So many levels are met: those of `done` are, those of `level` are next.
pub record Walk (p : Program) (l : Library) (t : List ℕ) (old now : Met) (seen : List ℕ → Bool) (level : List (List ℕ)) (j : ℕ) : Type 0 where
  pub done : List (List ℕ)
  pub few : j ≤ most l
  pub first : In t done ⊎ In t level
  pub seen_in : (u : List ℕ) → seen u ≡ true → In u done ⊎ In u level
  pub closed : (u v : List ℕ) → In u done → In v (above_of l u) → In v done ⊎ In v level
  pub met : (i : ℕ) (e : MethodName) → slice_get p.methods i ≡ Some e → is_clear p now e ≡ (is_clear p old e && list_all (local_clear l (string_text p e.name) (proto_text p e.proto)) done)
  pub sound : (n q : List ℕ) → walk_clear (most l) l n q t ≡ true → (u : List ℕ) → In u done → local_clear l n q u ≡ true
  pub ahead : (n q : List ℕ) (k : ℕ) → walk_clear (k + j) l n q t ≡ true → (u : List ℕ) → In u level → walk_clear k l n q u ≡ true
  pub behind : (n q : List ℕ) (r : ℕ) → ((u : List ℕ) → In u done → local_clear l n q u ≡ true) → ((u : List ℕ) → In u done ⊎ In u level → walk_clear r l n q u ≡ true) → walk_clear (r + j) l n q t ≡ true

and_more : (a b c : Bool) → ((a && b) && c) ≡ (a && (b && c))
and_more true b c = refl
and_more false b c = refl

and_true : (a : Bool) → a ≡ (a && true)
and_true true = refl
and_true false = refl

pub walk_none : (p : Program) (l : Library) (t : List ℕ) (old : Met) (seen : List ℕ → Bool) (level : List (List ℕ)) → ((u : List ℕ) → seen u ≡ true → In u level) → level ≡ t ∷ [] → Walk p l t old old seen level 0
walk_none p l t old seen level h is = record {
  done = [];
  few = omega arith;
  first = inr (subst (λ xs. In t xs) (sym is) (inl refl));
  seen_in = λ u e. inr (h u e);
  closed = λ u v i j. absurd i;
  met = λ i e g. and_true (is_clear p old e);
  sound = λ n q w u i. absurd i;
  ahead = λ n q k w u i. elim (subst (λ xs. In u xs) is i) [
    | inl e ↦ subst (λ x. walk_clear k l n q x ≡ true) e (subst (λ m. walk_clear m l n q t ≡ true) (let z : k + 0 ≡ k = omega arith in z) w)
    | inr j ↦ absurd j
  ];
  behind = λ n q r h g. subst (λ m. walk_clear m l n q t ≡ true) (let z : r ≡ r + 0 = omega arith in z) (g t (inr (subst (λ xs. In t xs) (sym is) (inl refl))));
}

module _ (p : Program) (l : Library) (t : List ℕ) (old now next : Met) (seen after : List ℕ → Bool) (level more : List (List ℕ)) (j : ℕ) (w : Walk p l t old now seen level j) (lt : j < most l)
    (meets : Meets p (λ n q. list_all (local_clear l n q) level) now next) (adds : Adds (flat_map (above_of l) level) seen after [] more) where
  D : List (List ℕ)
  D = w.done ++ level

  joined : (u : List ℕ) → In u w.done ⊎ In u level → In u (w.done ++ level)
  joined u (inl i) = in_left w.done level u i
  joined u (inr i) = in_right w.done level u i

  seen_now : (u : List ℕ) → after u ≡ true → In u (w.done ++ level) ⊎ In u more
  seen_now u e = elim (adds.seen u e) [ inl s ↦ inl (joined u (w.seen_in u s)) | inr i ↦ inr i ]

  closed_now : (u v : List ℕ) → In u (w.done ++ level) → In v (above_of l u) → In v (w.done ++ level) ⊎ In v more
  closed_now u v i a = elim (in_either w.done level u i) [
    | inl d ↦ inl (joined v (w.closed u v d a))
    | inr d ↦ elim (adds.got v (in_flat (above_of l) level u v d a)) [ inl s ↦ inl (joined v (w.seen_in v s)) | inr m ↦ inr m ]
  ]

  met_now : (i : ℕ) (e : MethodName) → slice_get p.methods i ≡ Some e → is_clear p next e ≡ (is_clear p old e && list_all (local_clear l (string_text p e.name) (proto_text p e.proto)) (w.done ++ level))
  met_now i e g =
      let test = local_clear l (string_text p e.name) (proto_text p e.proto) in
      meets.is i e g ∙ ap (λ b. b && list_all test level) (w.met i e g) ∙ and_more (is_clear p old e) (list_all test w.done) (list_all test level)
      ∙ ap (λ b. is_clear p old e && b) (sym (list_all-append test w.done level))

  level_clear : (n q : List ℕ) → walk_clear (most l) l n q t ≡ true → (u : List ℕ) → In u level → local_clear l n q u ≡ true
  level_clear n q h u i =
      let k = most l - suc j in
      let e : most l ≡ suc k + j = omega (arith, lt) in
      let here : walk_clear (suc k) l n q u ≡ true = w.ahead n q (suc k) (subst (λ m. walk_clear m l n q t ≡ true) e h) u i in
      and_left (local_clear l n q u) (list_all (walk_clear k l n q) (above_of l u)) here

  ahead_now : (n q : List ℕ) (k : ℕ) → walk_clear (k + (j + 1)) l n q t ≡ true → (v : List ℕ) → In v more → walk_clear k l n q v ≡ true
  ahead_now n q k h v i = elim (adds.from v i) [
    | inl none ↦ absurd none
    | inr f ↦ (
        let o = from_flat (above_of l) level v f in
        let e : k + (j + 1) ≡ suc k + j = omega arith in
        let here : walk_clear (suc k) l n q o.one ≡ true = w.ahead n q (suc k) (subst (λ m. walk_clear m l n q t ≡ true) e h) o.one o.is_in in
        all_one (walk_clear k l n q) (above_of l o.one) v (and_right (local_clear l n q o.one) (list_all (walk_clear k l n q) (above_of l o.one)) here) o.has)
  ]

  behind_now : (n q : List ℕ) (r : ℕ) → ((u : List ℕ) → In u (w.done ++ level) → local_clear l n q u ≡ true) → ((u : List ℕ) → In u (w.done ++ level) ⊎ In u more → walk_clear r l n q u ≡ true) → walk_clear (r + (j + 1)) l n q t ≡ true
  behind_now n q r h g =
      let e : suc r + j ≡ r + (j + 1) = omega arith in
      subst (λ m. walk_clear m l n q t ≡ true) e (w.behind n q (suc r) (λ u i. h u (in_left w.done level u i))
      (λ u i. both (local_clear l n q u) (list_all (walk_clear r l n q) (above_of l u)) (h u (joined u i)) (all_each (walk_clear r l n q) (above_of l u) (λ v a. g v (closed_now u v (joined u i) a)))))

  pub walk_more : Walk p l t old next after more (j + 1)
  walk_more = record {
    done = w.done ++ level;
    few = omega (arith, lt);
    first = inl (joined t w.first);
    seen_in = seen_now;
    closed = closed_now;
    met = met_now;
    sound = λ n q h u i. elim (in_either w.done level u i) [ inl d ↦ w.sound n q h u d | inr d ↦ level_clear n q h u d ];
    ahead = ahead_now;
    behind = behind_now;
  }

module _ (p : Program) (l : Library) (t : List ℕ) (old now : Met) (seen : List ℕ → Bool) (level : List (List ℕ)) (j : ℕ) (w : Walk p l t old now seen level j) where
  -- where nothing is left, all is clear at any number of levels
  whole : (none : level ≡ []) (n q : List ℕ) → list_all (local_clear l n q) w.done ≡ true → (k : ℕ) (u : List ℕ) → In u w.done → walk_clear k l n q u ≡ true
  whole none n q h zero u i = refl
  whole none n q h (suc k) u i = both (local_clear l n q u) (list_all (walk_clear k l n q) (above_of l u)) (all_one (local_clear l n q) w.done u h i)
      (all_each (walk_clear k l n q) (above_of l u) (λ v a. elim (w.closed u v i a) [ inl d ↦ whole none n q h k v d | inr m ↦ absurd (subst (λ xs. In v xs) none m) ]))

  known : (n q : List ℕ) → walk_clear (most l) l n q t ≡ true → list_all (local_clear l n q) w.done ≡ true
  known n q h = all_each (local_clear l n q) w.done (w.sound n q h)

  meets_by : ((n q : List ℕ) → list_all (local_clear l n q) w.done ≡ true → walk_clear (most l) l n q t ≡ true) → Meets p (λ n q. walk_clear (most l) l n q t) old now
  meets_by up = record {
    is = λ i e g.
        let n = string_text p e.name in
        let q = proto_text p e.proto in
        w.met i e g ∙ ap (λ b. is_clear p old e && b) (same_test (list_all (local_clear l n q) w.done) (walk_clear (most l) l n q t) (up n q) (known n q));
  }

  pub walk_ended : level ≡ [] → Meets p (λ n q. walk_clear (most l) l n q t) old now
  walk_ended none = meets_by (λ n q h. elim w.first [ inl d ↦ whole none n q h (most l) t d | inr m ↦ absurd (subst (λ xs. In t xs) none m) ])

  pub walk_full : most l ≤ j → Meets p (λ n q. walk_clear (most l) l n q t) old now
  walk_full le =
      let few = w.few in
      let e : 0 + j ≡ most l = omega (arith, le, few) in
      meets_by (λ n q h. subst (λ m. walk_clear m l n q t ≡ true) e (w.behind n q 0 (λ u i. all_one (local_clear l n q) w.done u h i) (λ u i. refl)))
