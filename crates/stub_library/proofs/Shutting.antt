-- The marks that are left after the rounds are those of the shut methods.
use Rattle.std.proofs.Common.{◌≡◌, ℕ, zero, suc, ◌+◌, ◌<◌, ◌^◌, inl, inr, Bool, true, false, true≢false, nat_eq, List, [], ◌∷◌, ◌++◌, length, replicate, Option, Some, None, refl, sym, ap, subst, ◌∙◌, arith}
use Rattle.std.specs.Prelude.{◌⊎◌, ◌&&◌, ◌||◌, not, cond, slice_get, is_some, flat_map, slice_index_or}
use Rattle.std.specs.List.{list_any, list_all}
use Rattle.std.proofs.lemmas.Option.{slice_get_within, get_or_from_slice_get}
use Rattle.program_model.specs.declared.pools.MethodName.{MethodName}
use Rattle.program_model.specs.declared.pass.Outside.{Outside}
use Rattle.program_model.specs.declared.program.Method.{Method}
use Rattle.program_model.specs.declared.program.MethodAt.{MethodAt}
use Rattle.program_model.specs.declared.program.Class.{Class}
use Rattle.program_model.specs.declared.program.Program.{Program}
use Rattle.program_model.specs.Lookups.{method_place}
use Rattle.program_model.specs.MemberRules.{has_flag, is_direct}
use Rattle.program_model.specs.ProgramRules.{is_well_formed}
use Rattle.class_defs.specs.ClassGraph.{IsTwice}
use Rattle.class_defs.specs.Places.{is_under, chain_of}
use Rattle.class_defs.specs.Members.{names_method, is_common}
use Rattle.class_defs.specs.Finding.{is_037}
use Rattle.class_defs.proofs.Positions.{both, number_of, number_test, same_test, entry_at}
use Rattle.class_defs.proofs.WellFormed.{and_left, and_right}
use Rattle.hierarchy.specs.Membership.{key_at}
use Rattle.hierarchy.specs.Shapes.{IsOf, IsResolved}
use Rattle.hierarchy.specs.declared.build.Hierarchy.{Hierarchy}
use Rattle.stub_library.specs.Marking.{is_on, set_all, up_to, number_list, found_by, found_list, below_of, virtual_numbers, kept_numbers, at_class, row_or_none, entering, entered_at, opened_at, numbers_along, found_along, found_open, open_marks, entered, pair_with, pairs_by, is_binding, pairs_of, pairs_at, all_pairs, waiting, round, rounds}
use Rattle.stub_library.specs.Loosening.{is_free, is_loose_by, loose_numbers}
use Rattle.stub_library.specs.Calling.{AreCalled}
use Rattle.stub_library.specs.Shut.{each_class, if_entry, type_clear, types_clear, finds_it, called_outside, is_kept, keeps_name, keeper_over, is_other, is_loose, is_clear_at, is_shut, shut_at, shut_number}
use Rattle.stub_library.specs.Lists.{In}
use Rattle.stub_library.specs.Meeting.{AreMet, IsMet, HasMet, clear_by, names_any}
use Rattle.stub_library.specs.declared.library.Library.{Library}
use Rattle.stub_library.proofs.Lists.{in_left, in_right, in_either, in_flat, from_flat, got_in, in_got, any_in, any_from, all_each, all_one}
use Rattle.stub_library.proofs.Marked.{Left, none_on, replicate_long, left_from, left_to, given_from, given_to, from_up, in_up, each_is, each_to, some_from, some_to}
use Rattle.stub_library.proofs.Below.{below_from, below_to}
use Rattle.stub_library.proofs.Unique.{Owns, Placed, fits, number_once, key_once, shut_here, from_some, from_none}
use Rattle.stub_library.proofs.Finds.{found_is, is_found}

-- ---- tests

or_split : (a b : Bool) → (a || b) ≡ true → (a ≡ true) ⊎ (b ≡ true)
or_split true b e = inl refl
or_split false b e = inr e

or_left : (a b : Bool) → a ≡ true → (a || b) ≡ true
or_left true b e = refl
or_left false b e = absurd (true≢false (sym e))

or_right : (a b : Bool) → b ≡ true → (a || b) ≡ true
or_right true b e = refl
or_right false b e = e

not_true : (b : Bool) → not b ≡ true → b ≡ true → ⊥
not_true true e f = true≢false (sym e)
not_true false e f = true≢false (sym f)

is_not : (b : Bool) → (b ≡ true → ⊥) → not b ≡ true
is_not true h = absurd (h refl)
is_not false h = refl

five : (a b c d e : Bool) → (a && (b && (c && (d && e)))) ≡ (a && b && c && d && e)
five true true c d e = four c d e
  where
    four : (c d e : Bool) → (c && (d && e)) ≡ (c && d && e)
    four true d e = refl
    four false d e = refl
five true false c d e = refl
five false b c d e = refl

in_list : (n : ℕ) (ns : List ℕ) → list_any (nat_eq n) ns ≡ true → In n ns
in_list n ns e = let r = any_from (nat_eq n) ns e in subst (λ x. In x ns) (sym (number_of n r.one r.passes)) r.is_in

list_in : (n : ℕ) (ns : List ℕ) → In n ns → list_any (nat_eq n) ns ≡ true
list_in n ns i = any_in (nat_eq n) ns n i (number_test n n refl)

in_one : {A : Type 0} (b : Bool) (x y : A) → b ≡ true → x ≡ y → In y (cond b (x ∷ []) [])
in_one true x y e s = inl s
in_one false x y e s = absurd (true≢false (sym e))

pub record FromCond {A : Type 0} (b : Bool) (xs : List A) (y : A) : Type 0 where
  pub on : b ≡ true
  pub has : In y xs

from_cond : {A : Type 0} (b : Bool) (xs : List A) (y : A) → In y (cond b xs []) → FromCond b xs y
from_cond true xs y i = record { on = refl; has = i }
from_cond false xs y i = absurd i

to_cond : {A : Type 0} (b : Bool) (xs : List A) (y : A) → b ≡ true → In y xs → In y (cond b xs [])
to_cond true xs y e i = i
to_cond false xs y e i = absurd (true≢false (sym e))

found_from : (o : Option ℕ) (n : ℕ) → In n (number_list o) → o ≡ Some n
found_from None n i = absurd i
found_from (Some x) n (inl s) = ap (λ y. Some y) s
found_from (Some x) n (inr i) = absurd i

found_to : (o : Option ℕ) (n : ℕ) → o ≡ Some n → In n (number_list o)
found_to o n e = subst (λ x. In n (number_list x)) (sym e) (inl refl)

module _ (p : Program) (wf : is_well_formed p ≡ true) (h : Hierarchy) (is : IsResolved p h) (o : Outside) (l : Library) (called opens : List Bool) (rows : List (List ℕ)) (calls : AreCalled p h called) (met : AreMet p l opens rows) where
  -- ---- the tables

  abbrev pub kept : List Bool
  kept = set_all true (replicate (length p.methods) false) o.methods

  abbrev pub loose : List Bool
  loose = set_all true (replicate (length p.methods) false) (flat_map (loose_numbers p h (set_all true (replicate (length p.methods) false) o.methods) called) p.classes)

  abbrev pub left : List Bool
  left = entered p kept opens rows loose

  abbrev pub pairs : List (ℕ × ℕ)
  pairs = all_pairs p kept left

  abbrev E1 : List ℕ
  E1 = up_to (entered_at p kept rows) (length p.classes)

  abbrev E2 : List ℕ
  E2 = up_to (found_open p (open_marks p opens)) (length p.classes)

  abbrev W : ℕ → List ℕ
  W r = flat_map (waiting (rounds left pairs r)) pairs

  once : (class : ℕ) → IsTwice p class → ⊥
  once = is.of.once

  number_short : (n : ℕ) (q : MethodName) → slice_get p.methods n ≡ Some q → n < length p.methods
  number_short n q e = slice_get_within p.methods n q e

  -- a number of the table is marked as kept where the outside keeps it
  kept_is : (n : ℕ) → n < length p.methods → is_on kept n ≡ is_kept o n
  kept_is n lt = same_test (is_on kept n) (is_kept o n)
      (λ e. elim (given_from (replicate (length p.methods) false) o.methods n e) [ inl f ↦ absurd (none_on (length p.methods) n f) | inr i ↦ list_in n o.methods i ])
      (λ e. given_to (replicate (length p.methods) false) o.methods n (let z = replicate_long (length p.methods) in omega (arith, z, lt)) (in_list n o.methods e))

  -- ---- one method

  module _ (c i : ℕ) (k : Class) (m : Method) (a : Owns p c k i m) (q : MethodName) (e : slice_get p.methods m.name ≡ Some q) where
    loose_is : is_loose_by p h kept called k m ≡ is_loose p o q k m
    loose_is =
        ap (λ b. not (is_direct p m) && (not b && (not (slice_index_or h.named.of_object.items (key_at h.named.method_keys.keys.items m.name) false) && (is_free p k && not (is_on called (key_at h.named.method_keys.keys.items m.name)))))) (kept_is m.name (number_short m.name q e))
        ∙ ap (λ b. not (is_direct p m) && (not (is_kept o m.name) && (not b && (is_free p k && not (is_on called (key_at h.named.method_keys.keys.items m.name)))))) (is.of.named.common.at m.name q e)
        ∙ ap (λ b. not (is_direct p m) && (not (is_kept o m.name) && (not (is_common p q.name q.proto) && (is_free p k && not b)))) (calls.are m.name q e)
        ∙ five (not (is_direct p m)) (not (is_kept o m.name)) (not (is_common p q.name q.proto)) (is_free p k) (not (called_outside p q))

    loose_from : is_on loose m.name ≡ true → is_loose p o q k m ≡ true
    loose_from f = elim (given_from (replicate (length p.methods) false) (flat_map (loose_numbers p h kept called) p.classes) m.name f) [
      | inl g ↦ absurd (none_on (length p.methods) m.name g)
      | inr j ↦ (
          let one = from_flat (loose_numbers p h kept called) p.classes m.name j in
          let two = from_flat (λ x. cond (is_loose_by p h kept called one.one x) (x.name ∷ []) []) one.one.methods m.name one.has in
          let three = from_cond (is_loose_by p h kept called one.one two.one) (two.one.name ∷ []) m.name two.has in
          let at = in_got p.classes one.one one.is_in in
          let there = in_got one.one.methods two.one two.is_in in
          let number : two.one.name ≡ m.name = elim three.has [ inl s ↦ s | inr z ↦ absurd z ] in
          let owns : Owns p at.place one.one there.place two.one = record { is_class = at.is; is_method = there.is } in
          let same = number_once p wf once at.place c there.place i one.one k two.one m owns a number in
          let y : Some one.one ≡ Some k = sym at.is ∙ ap (slice_get p.classes) same.class ∙ a.is_class in
          let classes : one.one ≡ k = cc in
          sym loose_is ∙ ap (λ u. is_loose_by p h kept called u m) (sym classes) ∙ ap (is_loose_by p h kept called one.one) (sym same.method) ∙ three.on)
    ]

    loose_to : is_loose p o q k m ≡ true → is_on loose m.name ≡ true
    loose_to f = given_to (replicate (length p.methods) false) (flat_map (loose_numbers p h kept called) p.classes) m.name (let z = replicate_long (length p.methods) in let y = number_short m.name q e in omega (arith, z, y))
        (in_flat (loose_numbers p h kept called) p.classes k m.name (got_in p.classes c k a.is_class)
        (in_flat (λ x. cond (is_loose_by p h kept called k x) (x.name ∷ []) []) k.methods m m.name (got_in k.methods i m a.is_method) (in_one (is_loose_by p h kept called k m) m.name m.name (loose_is ∙ f) refl)))

    -- what the tests of a loose method say
    first_four : (a b c d e : Bool) → (a && b && c && d && e) ≡ true → d ≡ true
    first_four a b c d e f = and_right (a && b && c) d (and_left (a && b && c && d) e f)

    free : is_loose p o q k m ≡ true → (is_037 p.version && has_flag k.flags 512) ≡ false
    free f = turned (is_037 p.version && has_flag k.flags 512) (first_four (not (is_direct p m)) (not (is_kept o m.name)) (not (is_common p q.name q.proto)) (is_free p k) (not (called_outside p q)) f)
      where
        turned : (b : Bool) → not b ≡ true → b ≡ false
        turned true g = absurd (true≢false (sym g))
        turned false g = refl

    virtual : is_loose p o q k m ≡ true → not (is_direct p m) ≡ true
    virtual f = and_left (not (is_direct p m)) (not (is_kept o m.name))
        (and_left (not (is_direct p m) && not (is_kept o m.name)) (not (is_common p q.name q.proto))
        (and_left (not (is_direct p m) && not (is_kept o m.name) && not (is_common p q.name q.proto)) (is_free p k)
        (and_left (not (is_direct p m) && not (is_kept o m.name) && not (is_common p q.name q.proto) && is_free p k) (not (called_outside p q)) f)))

    -- ---- it is entered at a class that finds it

    module _ (d : ℕ) (short : d < length p.classes) (f : is_loose p o q k m ≡ true) (finds : finds_it p c q d ≡ true) where
      by_number : (b : ℕ) → names_method q.name q.proto (slice_get p.methods b) ≡ true → found_by p d b ≡ Some m.name
      by_number b g = is_found p wf once c i k m q a e d b (free f) finds g

      entry_names : names_method q.name q.proto (slice_get p.methods m.name) ≡ true
      entry_names = ap (names_method q.name q.proto) e ∙ both (nat_eq q.name q.name) (nat_eq q.proto q.proto) (number_test q.name q.name refl) (number_test q.proto q.proto refl)

      along : In c (chain_of p (Some d))
      along = (found_is p wf once c i k m q a e d m.name (by_number m.name entry_names)).above

      -- by a number that enters below a class above
      enters : (x b : ℕ) (u : Class) → slice_get p.classes x ≡ Some u → is_under p d x ≡ true → In b (entering p kept rows x) → names_method q.name q.proto (slice_get p.methods b) ≡ true → In m.name E1
      enters x b u g under j names =
          in_up (entered_at p kept rows) (length p.classes) x m.name (slice_get_within p.classes x u g)
          (in_flat (λ y. flat_map (found_list p y) (entering p kept rows x)) (below_of p x) d m.name (below_to p x d short under)
          (in_flat (found_list p d) (entering p kept rows x) b m.name j (found_to (found_by p d b) m.name (by_number b names))))

      opened : (x : ℕ) (u : Class) → slice_get p.classes x ≡ Some u → is_under p d x ≡ true → is_on opens x ≡ true → In m.name E2
      opened x u g under on =
          in_up (found_open p (open_marks p opens)) (length p.classes) d m.name short
          (to_cond (is_on (open_marks p opens) d) (found_along p d) m.name
          (given_to (replicate (length p.classes) false) (up_to (opened_at p opens) (length p.classes)) d (let z = replicate_long (length p.classes) in omega (arith, z, short))
          (in_up (opened_at p opens) (length p.classes) x d (slice_get_within p.classes x u g) (to_cond (is_on opens x) (below_of p x) d on (below_to p x d short under))))
          (in_flat (found_list p d) (numbers_along p d) m.name m.name
          (in_flat (λ y. at_class (virtual_numbers p) (slice_get p.classes y)) (chain_of p (Some d)) c m.name along
          (subst (λ y. In m.name (at_class (virtual_numbers p) y)) (sym a.is_class)
          (in_flat (λ y. cond (not (is_direct p y)) (y.name ∷ []) []) k.methods m m.name (got_in k.methods i m a.is_method) (in_one (not (is_direct p m)) m.name m.name (virtual f) refl))))
          (found_to (found_by p d m.name) m.name (by_number m.name entry_names))))

      -- ---- so what isn't entered is clear there

      types_here : (In m.name E1 → ⊥) → (In m.name E2 → ⊥) → (x : ℕ) (u : Class) → slice_get p.classes x ≡ Some u → is_under p d x ≡ true → list_all (type_clear p l q) (u.superclass ∷ u.interfaces) ≡ true
      types_here away far x u g under =
          let here = met.at x u g in
          sym (here.met.is m.name q e) ∙ both (not here.open_here) (not (names_any p q here.row))
          (is_not here.open_here (λ on. far (opened x u g under (get_or_from_slice_get opens x here.open_here false here.is_open ∙ on))))
          (is_not (names_any p q here.row) (λ on.
          let w = any_from (λ n. names_method q.name q.proto (slice_get p.methods n)) here.row on in
          away (enters x w.one u g under (in_right (at_class (kept_numbers p kept) (slice_get p.classes x)) (row_or_none (slice_get rows x)) w.one
          (subst (λ y. In w.one (row_or_none y)) (sym here.is_row) w.is_in)) w.passes)))

      keeper_here : (In m.name E1 → ⊥) → keeper_over p o q d ≡ true → ⊥
      keeper_here away on =
          let w = some_from (λ x u. is_under p d x && keeps_name p o q u) 0 p.classes on in
          let under : is_under p d (0 + w.place) ≡ true = and_left (is_under p d (0 + w.place)) (keeps_name p o q w.class) w.passes in
          let v = any_from (λ y. names_method q.name q.proto (slice_get p.methods y.name) && not (is_direct p y) && is_kept o y.name) w.class.methods (and_right (is_under p d (0 + w.place)) (keeps_name p o q w.class) w.passes) in
          let both_of = and_left (names_method q.name q.proto (slice_get p.methods v.one.name) && not (is_direct p v.one)) (is_kept o v.one.name) v.passes in
          let names = and_left (names_method q.name q.proto (slice_get p.methods v.one.name)) (not (is_direct p v.one)) both_of in
          let plain = and_right (names_method q.name q.proto (slice_get p.methods v.one.name)) (not (is_direct p v.one)) both_of in
          let keeps = and_right (names_method q.name q.proto (slice_get p.methods v.one.name) && not (is_direct p v.one)) (is_kept o v.one.name) v.passes in
          let there = in_got w.class.methods v.one v.is_in in
          let fit = fits p wf once w.place w.class there.place v.one (record { is_class = w.is; is_method = there.is }) in
          let marked : is_on kept v.one.name ≡ true = kept_is v.one.name (number_short v.one.name fit.entry fit.is) ∙ keeps in
          away (enters w.place v.one.name w.class w.is (subst (λ n. is_under p d n ≡ true) (let z : 0 + w.place ≡ w.place = omega arith in z) under)
          (in_left (at_class (kept_numbers p kept) (slice_get p.classes w.place)) (row_or_none (slice_get rows w.place)) v.one.name
          (subst (λ y. In v.one.name (at_class (kept_numbers p kept) y)) (sym w.is)
          (in_flat (λ y. cond (not (is_direct p y) && is_on kept y.name) (y.name ∷ []) []) w.class.methods v.one v.one.name v.is_in
          (in_one (not (is_direct p v.one) && is_on kept v.one.name) v.one.name v.one.name (both (not (is_direct p v.one)) (is_on kept v.one.name) plain marked) refl)))) names)

      clear_here : (In m.name E1 → ⊥) → (In m.name E2 → ⊥) → is_clear_at p o l q d ≡ true
      clear_here away far = both (not (keeper_over p o q d)) (types_clear p l q d) (is_not (keeper_over p o q d) (keeper_here away))
          (each_to (λ x u. not (is_under p d x) || list_all (type_clear p l q) (u.superclass ∷ u.interfaces)) 0 p.classes (λ j x u g s.
          by_under x u (subst (λ n. slice_get p.classes n ≡ Some u) (sym (s ∙ (let z : 0 + j ≡ j = omega arith in z))) g) (is_under p d x) refl))
        where
          by_under : (x : ℕ) (u : Class) → slice_get p.classes x ≡ Some u → (b : Bool) → is_under p d x ≡ b → (not b || list_all (type_clear p l q) (u.superclass ∷ u.interfaces)) ≡ true
          by_under x u g false s = refl
          by_under x u g true s = types_here away far x u g s

    -- ---- what enters it isn't clear

    module _ (f : is_loose p o q k m ≡ true) (clear : (d : ℕ) → d < length p.classes → finds_it p c q d ≡ true → is_clear_at p o l q d ≡ true) where
      types_at : (d : ℕ) → d < length p.classes → finds_it p c q d ≡ true → (x : ℕ) (u : Class) → slice_get p.classes x ≡ Some u → is_under p d x ≡ true → list_all (type_clear p l q) (u.superclass ∷ u.interfaces) ≡ true
      types_at d short g x u w under =
          by (is_under p d x) under (each_is (λ x u. not (is_under p d x) || list_all (type_clear p l q) (u.superclass ∷ u.interfaces)) 0 p.classes x x u
          (and_right (not (keeper_over p o q d)) (types_clear p l q d) (clear d short g)) w (let z : x ≡ 0 + x = omega arith in z))
        where
          by : (b : Bool) → b ≡ true → (not b || list_all (type_clear p l q) (u.superclass ∷ u.interfaces)) ≡ true → list_all (type_clear p l q) (u.superclass ∷ u.interfaces) ≡ true
          by true s t = t
          by false s t = absurd (true≢false (sym s))

      met_clear : (d : ℕ) → d < length p.classes → finds_it p c q d ≡ true → (x : ℕ) (u : Class) → slice_get p.classes x ≡ Some u → is_under p d x ≡ true → (here : HasMet p l u opens rows x) → (here.open_here ≡ true → ⊥) × (names_any p q here.row ≡ true → ⊥)
      met_clear d short g x u w under here =
          let all : clear_by p q (not here.open_here) here.row ≡ true = here.met.is m.name q e ∙ types_at d short g x u w under in
          (not_true here.open_here (and_left (not here.open_here) (not (names_any p q here.row)) all), not_true (names_any p q here.row) (and_right (not here.open_here) (not (names_any p q here.row)) all))

      unkept : (d : ℕ) → d < length p.classes → finds_it p c q d ≡ true → (x : ℕ) (u : Class) (y : Method) → slice_get p.classes x ≡ Some u → In y u.methods → is_under p d x ≡ true
          → names_method q.name q.proto (slice_get p.methods y.name) ≡ true → not (is_direct p y) ≡ true → is_kept o y.name ≡ true → ⊥
      unkept d short g x u y w there under names plain keeps =
          not_true (keeper_over p o q d) (and_left (not (keeper_over p o q d)) (types_clear p l q d) (clear d short g))
          (some_to (λ x u. is_under p d x && keeps_name p o q u) 0 p.classes x u w
          (ap (λ n. is_under p d n && keeps_name p o q u) (let z : 0 + x ≡ x = omega arith in z)
          ∙ both (is_under p d x) (keeps_name p o q u) under
          (any_in (λ y. names_method q.name q.proto (slice_get p.methods y.name) && not (is_direct p y) && is_kept o y.name) u.methods y there
          (both (names_method q.name q.proto (slice_get p.methods y.name) && not (is_direct p y)) (is_kept o y.name) (both (names_method q.name q.proto (slice_get p.methods y.name)) (not (is_direct p y)) names plain) keeps))))

      not_entered : In m.name E1 → ⊥
      not_entered i1 =
          let one = from_up (entered_at p kept rows) (length p.classes) m.name i1 in
          let at = entry_at p.classes one.one one.short in
          let two = from_flat (λ y. flat_map (found_list p y) (entering p kept rows one.one)) (below_of p one.one) m.name one.has in
          let three = from_flat (found_list p two.one) (entering p kept rows one.one) m.name two.has in
          let found = found_is p wf once c i k m q a e two.one three.one (found_from (found_by p two.one three.one) m.name three.has) in
          let below = below_from p one.one two.one one.short two.is_in in
          elim (in_either (at_class (kept_numbers p kept) (slice_get p.classes one.one)) (row_or_none (slice_get rows one.one)) three.one three.is_in) [
            | inl j ↦ by_kept two.one below.short found.finds one.one at.0 at.1 below.under three.one found.names (subst (λ y. In three.one (at_class (kept_numbers p kept) y)) at.1 j)
            | inr j ↦ by_row two.one below.short found.finds one.one at.0 at.1 below.under three.one found.names j
          ]
        where
          by_kept : (d : ℕ) → d < length p.classes → finds_it p c q d ≡ true → (x : ℕ) (u : Class) → slice_get p.classes x ≡ Some u → is_under p d x ≡ true → (b : ℕ) → names_method q.name q.proto (slice_get p.methods b) ≡ true
              → In b (kept_numbers p kept u) → ⊥
          by_kept d short g x u w under b names j =
              let r = from_flat (λ y. cond (not (is_direct p y) && is_on kept y.name) (y.name ∷ []) []) u.methods b j in
              let t = from_cond (not (is_direct p r.one) && is_on kept r.one.name) (r.one.name ∷ []) b r.has in
              let number : r.one.name ≡ b = elim t.has [ inl s ↦ s | inr z ↦ absurd z ] in
              let there = in_got u.methods r.one r.is_in in
              let fit = fits p wf once x u there.place r.one (record { is_class = w; is_method = there.is }) in
              unkept d short g x u r.one w r.is_in under (ap (λ n. names_method q.name q.proto (slice_get p.methods n)) number ∙ names) (and_left (not (is_direct p r.one)) (is_on kept r.one.name) t.on)
              (sym (kept_is r.one.name (number_short r.one.name fit.entry fit.is)) ∙ and_right (not (is_direct p r.one)) (is_on kept r.one.name) t.on)

          by_row : (d : ℕ) → d < length p.classes → finds_it p c q d ≡ true → (x : ℕ) (u : Class) → slice_get p.classes x ≡ Some u → is_under p d x ≡ true → (b : ℕ) → names_method q.name q.proto (slice_get p.methods b) ≡ true
              → In b (row_or_none (slice_get rows x)) → ⊥
          by_row d short g x u w under b names j =
              let here = met.at x u w in
              (met_clear d short g x u w under here).1 (any_in (λ n. names_method q.name q.proto (slice_get p.methods n)) here.row b (subst (λ y. In b (row_or_none y)) here.is_row j) names)

      not_open : In m.name E2 → ⊥
      not_open i2 =
          let one = from_up (found_open p (open_marks p opens)) (length p.classes) m.name i2 in
          let two = from_cond (is_on (open_marks p opens) one.one) (found_along p one.one) m.name one.has in
          let three = from_flat (found_list p one.one) (numbers_along p one.one) m.name two.has in
          let found = found_is p wf once c i k m q a e one.one three.one (found_from (found_by p one.one three.one) m.name three.has) in
          elim (given_from (replicate (length p.classes) false) (up_to (opened_at p opens) (length p.classes)) one.one two.on) [
            | inl g ↦ none_on (length p.classes) one.one g
            | inr j ↦ (
                let four = from_up (opened_at p opens) (length p.classes) one.one j in
                let on = from_cond (is_on opens four.one) (below_of p four.one) one.one four.has in
                let at = entry_at p.classes four.one four.short in
                let below = below_from p four.one one.one four.short on.has in
                let here = met.at four.one at.0 at.1 in
                (met_clear one.one one.short found.finds four.one at.0 at.1 below.under here).0 (sym (get_or_from_slice_get opens four.one here.open_here false here.is_open) ∙ on.on))
          ]

  -- ---- the rounds

  -- what an upper class owes a finder, at one more level
  abbrev pub at_other : ℕ → ℕ → MethodName → ℕ → Class → Method → Bool
  at_other r c q e u x = not (is_other p c q e x) || is_kept o x.name || is_shut r p o l e u x

  abbrev pub at_upper : ℕ → ℕ → MethodName → ℕ → ℕ → Class → Bool
  at_upper r c q d e u = not (is_under p d e) || list_all (at_other r c q e u) u.methods

  abbrev pub at_finder : ℕ → ℕ → MethodName → ℕ → Class → Bool
  at_finder r c q d u = not (finds_it p c q d) || (is_clear_at p o l q d && each_class (at_upper r c q d) 0 p.classes)

  abbrev pub Agrees : ℕ → Type 0
  Agrees r = (c i : ℕ) (k : Class) (m : Method) → Owns p c k i m → is_on (rounds left pairs r) m.name ≡ is_shut r p o l c k m

  module _ (r : ℕ) (before : Agrees r) (c i : ℕ) (k : Class) (m : Method) (a : Owns p c k i m) (q : MethodName) (e : slice_get p.methods m.name ≡ Some q) where
    module _ (on : is_on (rounds left pairs (suc r)) m.name ≡ true) where
      last : Left left (W r) m.name
      last = left_from left (W r) m.name on

      second : Left (set_all false loose E1) E2 m.name
      second = left_from (set_all false loose E1) E2 m.name last.before

      first : Left loose E1 m.name
      first = left_from loose E1 m.name second.before

      is_loose_now : is_loose p o q k m ≡ true
      is_loose_now = loose_from c i k m a q e first.before

      other_now : (d : ℕ) → d < length p.classes → finds_it p c q d ≡ true → (x : ℕ) (u : Class) → slice_get p.classes x ≡ Some u → is_under p d x ≡ true → (y : Method) → In y u.methods → at_other r c q x u y ≡ true
      other_now d short finds x u g under y there = by (is_other p c q x y) refl
        where
          by_kept : is_other p c q x y ≡ true → (b : Bool) → is_kept o y.name ≡ b → (b || is_shut r p o l x u y) ≡ true
          by_kept s true t = refl
          by_kept s false t =
              let one = and_left (names_method q.name q.proto (slice_get p.methods y.name) && not (is_direct p y) && is_some y.body) (not (nat_eq x c)) s in
              let two = and_left (names_method q.name q.proto (slice_get p.methods y.name) && not (is_direct p y)) (is_some y.body) one in
              let names = and_left (names_method q.name q.proto (slice_get p.methods y.name)) (not (is_direct p y)) two in
              let at = in_got u.methods y there in
              let owns : Owns p x u at.place y = record { is_class = g; is_method = at.is } in
              let fit = fits p wf once x u at.place y owns in
              let unmarked : not (is_on kept y.name) ≡ true = is_not (is_on kept y.name) (λ z. true≢false (sym z ∙ kept_is y.name (number_short y.name fit.entry fit.is) ∙ t)) in
              let binding : is_binding p kept y ≡ true = both (not (is_direct p y)) (is_some y.body && not (is_on kept y.name)) (and_right (names_method q.name q.proto (slice_get p.methods y.name)) (not (is_direct p y)) two)
              (both (is_some y.body) (not (is_on kept y.name)) (and_right (names_method q.name q.proto (slice_get p.methods y.name) && not (is_direct p y)) (is_some y.body) one) unmarked) in
              let apart : not (nat_eq m.name y.name) ≡ true = is_not (nat_eq m.name y.name) (λ z. not_true (nat_eq x c) (and_right (names_method q.name q.proto (slice_get p.methods y.name) && not (is_direct p y) && is_some y.body) (not (nat_eq x c)) s)
              (number_test x c (sym (number_once p wf once c x i at.place k u m y a owns (number_of m.name y.name z)).class))) in
              let pair : In (m.name, y.name) pairs = in_up (pairs_at p kept left) (length p.classes) x (m.name, y.name) (slice_get_within p.classes x u g)
              (subst (λ v. In (m.name, y.name) (at_class (pairs_of p kept left x) v)) (sym g)
              (in_flat (λ v. cond (is_binding p kept v) (pairs_by p left (below_of p x) v.name) []) u.methods y (m.name, y.name) there
              (to_cond (is_binding p kept y) (pairs_by p left (below_of p x) y.name) (m.name, y.name) binding
              (in_flat (λ v. pair_with left y.name (found_by p v y.name)) (below_of p x) d (m.name, y.name) (below_to p x d short under)
              (subst (λ v. In (m.name, y.name) (pair_with left y.name v)) (sym (by_number c i k m a q e d short is_loose_now finds y.name names))
              (in_one (not (nat_eq m.name y.name) && is_on left m.name) (m.name, y.name) (m.name, y.name) (both (not (nat_eq m.name y.name)) (is_on left m.name) apart last.before) refl)))))) in
              sym (before x at.place u y owns) ∙ marked (is_on (rounds left pairs r) y.name) refl pair
            where
              marked : (b : Bool) → is_on (rounds left pairs r) y.name ≡ b → In (m.name, y.name) pairs → b ≡ true
              marked true z pair = refl
              marked false z pair = absurd (last.apart (in_flat (waiting (rounds left pairs r)) pairs (m.name, y.name) m.name pair
                  (subst (λ b. In m.name (cond b [] (m.name ∷ []))) (sym z) (inl refl))))

          by : (b : Bool) → is_other p c q x y ≡ b → (not b || is_kept o y.name || is_shut r p o l x u y) ≡ true
          by false s = refl
          by true s = by_kept s (is_kept o y.name) refl

      finder_now : (d : ℕ) (v : Class) → slice_get p.classes d ≡ Some v → at_finder r c q d v ≡ true
      finder_now d v g = by (finds_it p c q d) refl
        where
          short : d < length p.classes
          short = slice_get_within p.classes d v g

          upper : (x : ℕ) (u : Class) → slice_get p.classes x ≡ Some u → finds_it p c q d ≡ true → (b : Bool) → is_under p d x ≡ b → (not b || list_all (at_other r c q x u) u.methods) ≡ true
          upper x u w s false t = refl
          upper x u w s true t = all_each (at_other r c q x u) u.methods (λ y j. other_now d short s x u w t y j)

          by : (b : Bool) → finds_it p c q d ≡ b → (not b || (is_clear_at p o l q d && each_class (at_upper r c q d) 0 p.classes)) ≡ true
          by false s = refl
          by true s = both (is_clear_at p o l q d) (each_class (at_upper r c q d) 0 p.classes) (clear_here c i k m a q e d short is_loose_now s first.apart second.apart)
              (each_to (at_upper r c q d) 0 p.classes (λ j x u w z. upper x u (subst (λ n. slice_get p.classes n ≡ Some u) (sym (z ∙ (let y : 0 + j ≡ j = omega arith in y))) w) s (is_under p d x) refl))

      shut_now : (is_loose p o q k m && each_class (at_finder r c q) 0 p.classes) ≡ true
      shut_now = both (is_loose p o q k m) (each_class (at_finder r c q) 0 p.classes) is_loose_now
          (each_to (at_finder r c q) 0 p.classes (λ j d v w z. finder_now d v (subst (λ n. slice_get p.classes n ≡ Some v) (sym (z ∙ (let y : 0 + j ≡ j = omega arith in y))) w)))

    module _ (shut : (is_loose p o q k m && each_class (at_finder r c q) 0 p.classes) ≡ true) where
      loosely : is_loose p o q k m ≡ true
      loosely = and_left (is_loose p o q k m) (each_class (at_finder r c q) 0 p.classes) shut

      at_d : (d : ℕ) → d < length p.classes → finds_it p c q d ≡ true → (is_clear_at p o l q d && each_class (at_upper r c q d) 0 p.classes) ≡ true
      at_d d short finds = let at = entry_at p.classes d short in by (finds_it p c q d) finds (each_is (at_finder r c q) 0 p.classes d d at.0 (and_right (is_loose p o q k m) (each_class (at_finder r c q) 0 p.classes) shut) at.1 (let z : d ≡ 0 + d = omega arith in z))
        where
          by : (b : Bool) → b ≡ true → (not b || (is_clear_at p o l q d && each_class (at_upper r c q d) 0 p.classes)) ≡ true → (is_clear_at p o l q d && each_class (at_upper r c q d) 0 p.classes) ≡ true
          by true s t = t
          by false s t = absurd (true≢false (sym s))

      clearly : (d : ℕ) → d < length p.classes → finds_it p c q d ≡ true → is_clear_at p o l q d ≡ true
      clearly d short finds = and_left (is_clear_at p o l q d) (each_class (at_upper r c q d) 0 p.classes) (at_d d short finds)

      stays_left : is_on left m.name ≡ true
      stays_left = left_to (set_all false loose E1) E2 m.name (left_to loose E1 m.name (loose_to c i k m a q e loosely) (not_entered c i k m a q e loosely clearly)) (not_open c i k m a q e loosely clearly)

      waits_not : In m.name (W r) → ⊥
      waits_not w =
          let one = from_flat (waiting (rounds left pairs r)) pairs m.name w in
          by_mark one.one (is_on (rounds left pairs r) one.one.1) refl one.is_in one.has
        where
          by_pair : (x : ℕ) (u : Class) (y : Method) (d : ℕ) (o' : Option ℕ) → slice_get p.classes x ≡ Some u → In y u.methods → is_binding p kept y ≡ true → In d (below_of p x) → found_by p d y.name ≡ o' → (f s : ℕ)
              → In (f, s) (pair_with left y.name o') → f ≡ m.name → is_on (rounds left pairs r) s ≡ false → ⊥
          by_pair x u y d None g there binding j z f s i' same off = i'
          by_pair x u y d (Some n) g there binding j z f s i' same off =
              let t = from_cond (not (nat_eq n y.name) && is_on left n) ((n, y.name) ∷ []) (f, s) i' in
              let pair : (n, y.name) ≡ (f, s) = elim t.has [ inl v ↦ v | inr v ↦ absurd v ] in
              let number : n ≡ m.name = ap (λ (v : ℕ × ℕ). v.0) pair ∙ same in
              let second : y.name ≡ s = ap (λ (v : ℕ × ℕ). v.1) pair in
              let found = found_is p wf once c i k m q a e d y.name (z ∙ ap (λ v. Some v) number) in
              let below = below_from p x d (slice_get_within p.classes x u g) j in
              let at = in_got u.methods y there in
              let owns : Owns p x u at.place y = record { is_class = g; is_method = at.is } in
              let fit = fits p wf once x u at.place y owns in
              let plain = and_left (not (is_direct p y)) (is_some y.body && not (is_on kept y.name)) binding in
              let rest = and_right (not (is_direct p y)) (is_some y.body && not (is_on kept y.name)) binding in
              let apart : not (nat_eq x c) ≡ true = is_not (nat_eq x c) (λ v. not_true (nat_eq n y.name) (and_left (not (nat_eq n y.name)) (is_on left n) t.on)
              (number_test n y.name (number ∙ sym (own_key x (number_of x c v) u at.place y owns found.names)))) in
              let other : is_other p c q x y ≡ true = both (names_method q.name q.proto (slice_get p.methods y.name) && not (is_direct p y) && is_some y.body) (not (nat_eq x c))
              (both (names_method q.name q.proto (slice_get p.methods y.name) && not (is_direct p y)) (is_some y.body) (both (names_method q.name q.proto (slice_get p.methods y.name)) (not (is_direct p y)) found.names plain)
              (and_left (is_some y.body) (not (is_on kept y.name)) rest)) apart in
              let unmarked = and_right (is_some y.body) (not (is_on kept y.name)) rest in
              let upper = each_is (at_upper r c q d) 0 p.classes x x u (and_right (is_clear_at p o l q d) (each_class (at_upper r c q d) 0 p.classes) (at_d d below.short found.finds)) g (let v : x ≡ 0 + x = omega arith in v) in
              let owed : at_other r c q x u y ≡ true = all_one (at_other r c q x u) u.methods y (by_true (is_under p d x) (list_all (at_other r c q x u) u.methods) below.under upper) there in
              let either = by_true (is_other p c q x y) (is_kept o y.name || is_shut r p o l x u y) other (or_more (not (is_other p c q x y)) (is_kept o y.name) (is_shut r p o l x u y) owed) in
              elim (or_split (is_kept o y.name) (is_shut r p o l x u y) either) [
                | inl v ↦ not_true (is_on kept y.name) unmarked (kept_is y.name (number_short y.name fit.entry fit.is) ∙ v)
                | inr v ↦ true≢false (sym (before x at.place u y owns ∙ v) ∙ ap (is_on (rounds left pairs r)) second ∙ off)
              ]
            where
              by_true : (b t : Bool) → b ≡ true → (not b || t) ≡ true → t ≡ true
              by_true true t v w = w
              by_true false t v w = absurd (true≢false (sym v))

              or_more : (x y z : Bool) → (x || y || z) ≡ true → (x || (y || z)) ≡ true
              or_more true y z v = refl
              or_more false y z v = v

              own_key : (x : ℕ) → x ≡ c → (u : Class) (at : ℕ) (y : Method) → Owns p x u at y → names_method q.name q.proto (slice_get p.methods y.name) ≡ true → y.name ≡ m.name
              own_key x v u at y owns names =
                  let z : Some u ≡ Some k = sym owns.is_class ∙ ap (slice_get p.classes) v ∙ a.is_class in
                  let classes : u ≡ k = cc in
                  key_once p wf once c i at k m y q a (record { is_class = a.is_class; is_method = subst (λ w. slice_get w.methods at ≡ Some y) classes owns.is_method }) e names

          by_all : (f s : ℕ) → In (f, s) pairs → f ≡ m.name → is_on (rounds left pairs r) s ≡ false → ⊥
          by_all f s j same off =
              let one = from_up (pairs_at p kept left) (length p.classes) (f, s) j in
              let at = entry_at p.classes one.one one.short in
              let two = from_flat (λ v. cond (is_binding p kept v) (pairs_by p left (below_of p one.one) v.name) []) at.0.methods (f, s) (subst (λ v. In (f, s) (at_class (pairs_of p kept left one.one) v)) at.1 one.has) in
              let three = from_cond (is_binding p kept two.one) (pairs_by p left (below_of p one.one) two.one.name) (f, s) two.has in
              let four = from_flat (λ v. pair_with left two.one.name (found_by p v two.one.name)) (below_of p one.one) (f, s) three.has in
              by_pair one.one at.0 two.one four.one (found_by p four.one two.one.name) at.1 two.is_in three.on four.is_in refl f s four.has same off

          by_mark : (z : ℕ × ℕ) (b : Bool) → is_on (rounds left pairs r) z.1 ≡ b → In z pairs → In m.name (cond b [] (z.0 ∷ [])) → ⊥
          by_mark z true off j i' = i'
          by_mark z false off j (inl s) = by_all z.0 z.1 j s off
          by_mark z false off j (inr i') = i'

      on_now : is_on (rounds left pairs (suc r)) m.name ≡ true
      on_now = left_to left (W r) m.name stays_left waits_not

    pub one_more : is_on (rounds left pairs (suc r)) m.name ≡ is_shut (suc r) p o l c k m
    one_more = same_test (is_on (rounds left pairs (suc r)) m.name) (is_loose p o q k m && each_class (at_finder r c q) 0 p.classes) shut_now on_now
        ∙ sym (ap (if_entry (λ q. is_loose p o q k m && each_class (at_finder r c q) 0 p.classes)) e)

  pub agrees : (r : ℕ) → Agrees r
  agrees zero c i k m a = none (length left) m.name
    where
      none : (size n : ℕ) → is_on (replicate size false) n ≡ false
      none size n = by (is_on (replicate size false) n) refl
        where
          by : (b : Bool) → is_on (replicate size false) n ≡ b → b ≡ false
          by true e = absurd (none_on size n e)
          by false e = refl
  agrees (suc r) c i k m a = let fit = fits p wf once c k i m a in one_more r (agrees r) c i k m a fit.entry fit.is

  -- what isn't defined has no mark
  undefined : (r n : ℕ) → method_place p n ≡ None → is_on (rounds left pairs r) n ≡ true → ⊥
  undefined zero n e on = none_on (length left) n on
  undefined (suc r) n e on =
      let last = left_from left (W r) n on in
      let second = left_from (set_all false loose E1) E2 n last.before in
      let first = left_from loose E1 n second.before in
      elim (given_from (replicate (length p.methods) false) (flat_map (loose_numbers p h kept called) p.classes) n first.before) [
        | inl g ↦ none_on (length p.methods) n g
        | inr j ↦ (
            let one = from_flat (loose_numbers p h kept called) p.classes n j in
            let two = from_flat (λ x. cond (is_loose_by p h kept called one.one x) (x.name ∷ []) []) one.one.methods n one.has in
            let three = from_cond (is_loose_by p h kept called one.one two.one) (two.one.name ∷ []) n two.has in
            let at = in_got p.classes one.one one.is_in in
            let there = in_got one.one.methods two.one two.is_in in
            let number : two.one.name ≡ n = elim three.has [ inl s ↦ s | inr z ↦ absurd z ] in
            from_none p.classes 0 n at.place there.place one.one two.one at.is there.is number e)
      ]

  pub all_marks : (n : ℕ) → is_on (rounds left pairs (length p.classes + 1)) n ≡ shut_number p o l n
  all_marks n = ap (λ r. is_on (rounds left pairs r) n) (let z : length p.classes + 1 ≡ suc (length p.classes) = omega arith in z) ∙ by (method_place p n) refl
    where
      off : (b : Bool) → (b ≡ true → ⊥) → b ≡ false
      off true g = absurd (g refl)
      off false g = refl

      by : (x : Option MethodAt) → method_place p n ≡ x → is_on (rounds left pairs (suc (length p.classes))) n ≡ shut_at (suc (length p.classes)) p o l (method_place p n)
      by None e = off (is_on (rounds left pairs (suc (length p.classes))) n) (undefined (suc (length p.classes)) n e) ∙ sym (ap (shut_at (suc (length p.classes)) p o l) e)
      by (Some at) e =
          let w = from_some p.classes 0 n at e in
          let owns : Owns p w.place w.class at.place w.method = record { is_class = w.is_class; is_method = w.is_method } in
          ap (is_on (rounds left pairs (suc (length p.classes)))) (sym w.named)
          ∙ agrees (suc (length p.classes)) w.place at.place w.class w.method owns
          ∙ sym (shut_here p wf once (suc (length p.classes)) o l w.place at.place w.class w.method owns)
          ∙ ap (λ m. shut_at (suc (length p.classes)) p o l (method_place p m)) w.named
