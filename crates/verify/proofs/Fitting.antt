-- What is at or below a kind that fits a type fits it too.
use Rattle.std.proofs.Common.{◌≡◌, ℕ, zero, suc, ◌-◌, ◌<◌, Bool, true, false, ◌&&◌, ◌||◌, not, nat_eq, nat_lt, Option, Some, None, ◌⊎◌, inl, inr, refl, sym, ap, ◌∙◌, subst, arith}
use Rattle.std.specs.Prelude.{if◌then◌else◌}
use Rattle.std.proofs.lemmas.Bool.{eqb-true, eqb-false, ltb-true, lt-ltb, ne_eqb}
use Rattle.verify.specs.declared.kinds.Kind.{Kind}
use Rattle.verify.specs.declared.kinds.Kind.TheVariants as kind
use Rattle.verify.specs.declared.shapes.Shape.{Shape}
use Rattle.verify.specs.declared.shapes.Shape.TheVariants.{Void, Int, Word, Wide, Class, Array}
use Rattle.verify.specs.declared.tables.Tables.{Tables}
use Rattle.verify.specs.Chains.{above, nearest, is_in_chain}
use Rattle.verify.specs.Fits.{is_below_class, item_fits, array_fits, fits_array, fits_class, fits_shape, fits, fits_holder, fits_item_of, fits_item}
use Rattle.verify.specs.Joins.{nearest_place, nearest_item, is_flat}
use Rattle.verify.specs.Kinds.{same_number, is_null}
use Rattle.verify.specs.Meeting.{is_settled_class, is_settled, IsMeeting}
use Rattle.verify.specs.Shapes.{is_reference, is_plain, is_program_interface, place_of}
use Rattle.verify.specs.Types.{shape_of, item_shape, item_of_class}
use Rattle.verify.specs.Typings.{Below}
use Rattle.verify.proofs.Chained as chained
use Rattle.verify.proofs.Lattice.{left_true, right_true, number_is}
use Rattle.verify.proofs.Orders.{number_below, made_below, itself, unknown, word, empty, any, classes, items, deep, under}

-- an array whose items have a class above those of another one
pub record AreItems (t : Tables) (i j : Option ℕ) : Type 0 where
  pub lower : ℕ
  pub upper : ℕ
  pub plain : Bool
  pub other : Bool
  pub is_lower : item_shape t i ≡ Class (Some lower) plain
  pub is_upper : item_shape t j ≡ Class (Some upper) other
  pub near : nearest t.chains lower upper ≡ Some upper
  pub settles : (plain ≡ true) ⊎ ((lower ≡ upper) × (plain ≡ other))

place_is : (s : Shape) (c : ℕ) → place_of s ≡ Some c → s ≡ Class (Some c) (is_plain s)
place_is (Class p b) c e = ap (λ x. Class x b) e
place_is s c e = absurd (cc)

number_of : Option ℕ → ℕ
number_of None = 0
number_of (Some n) = n

some_is : (a b : ℕ) → Some a ≡ Some b → a ≡ b
unfolding number_of
some_is a b e = ap number_of e

not_true : (b : Bool) → not b ≡ true → b ≡ false
not_true false e = refl
not_true true e = absurd (cc)

record Places (t : Tables) (p q : Option ℕ) (c : ℕ) : Type 0 where
  one : ℕ
  two : ℕ
  is_one : p ≡ Some one
  is_two : q ≡ Some two
  meet : nearest t.chains one two ≡ Some c

places : (t : Tables) (p q : Option ℕ) (c : ℕ) → nearest_place t p q ≡ Some c → Places t p q c
places t (Some a) (Some b) c e = record { one = a; two = b; is_one = refl; is_two = refl; meet = e }
places t (Some a) None c e = absurd (cc)
places t None (Some b) c e = absurd (cc)
places t None None c e = absurd (cc)

module _ (t : Tables) (m : IsMeeting t) where
  pub item_settled : (i : Option ℕ) → is_settled t (item_shape t i) ≡ true
  item_settled None = refl
  item_settled (Some k) = m.settled k

  -- no class stands above it
  alone : (a c : ℕ) → above t.chains a ≡ None → nearest t.chains a c ≡ Some c → a ≡ c
  alone a c e n =
      let d = chained.top_depth t.chains m.chains a e in
      elim (m.falls a c c n) [ inl q ↦ sym q | inr q ↦ absurd (omega (arith, q, d)) ]

  settles_in : (a c : ℕ) (plain other : Bool) → nearest t.chains a c ≡ Some c → other ≡ is_plain (item_shape t (item_of_class t c)) → is_settled_class t a plain ≡ true → (plain ≡ true) ⊎ ((a ≡ c) × (plain ≡ other))
  settles_in a c true other n o s = inl refl
  settles_in a c false other n o s =
      let l : not (is_plain (item_shape t (item_of_class t a))) ≡ true = left_true (not (is_plain (item_shape t (item_of_class t a)))) (same_number (above t.chains a) None) s in
      let r : same_number (above t.chains a) None ≡ true = right_true (not (is_plain (item_shape t (item_of_class t a)))) (same_number (above t.chains a) None) s in
      let e : a ≡ c = alone a c (number_is (above t.chains a) None r) n in
      let f : is_plain (item_shape t (item_of_class t a)) ≡ false = not_true (is_plain (item_shape t (item_of_class t a))) l in
      inr (e, sym (o ∙ subst (λ x. is_plain (item_shape t (item_of_class t x)) ≡ false) e f))

  pub are_items : (i j : Option ℕ) (c : ℕ) → nearest_item t i j ≡ Some c → j ≡ item_of_class t c → AreItems t i j
  are_items i j c n e =
      let ps = places t (place_of (item_shape t i)) (place_of (item_shape t j)) c n in
      let u : place_of (item_shape t j) ≡ Some c = ap (λ x. place_of (item_shape t x)) e ∙ m.stands i j c n in
      let w : ps.two ≡ c = some_is ps.two c (sym ps.is_two ∙ u) in
      let near : nearest t.chains ps.one c ≡ Some c = subst (λ x. nearest t.chains ps.one x ≡ Some c) w ps.meet in
      let si : item_shape t i ≡ Class (Some ps.one) (is_plain (item_shape t i)) = place_is (item_shape t i) ps.one ps.is_one in
      let o : is_plain (item_shape t j) ≡ is_plain (item_shape t (item_of_class t c)) = ap (λ x. is_plain (item_shape t x)) e in
      record {
        lower = ps.one;
        upper = c;
        plain = is_plain (item_shape t i);
        other = is_plain (item_shape t j);
        is_lower = si;
        is_upper = place_is (item_shape t j) c u;
        near = near;
        settles = settles_in ps.one c (is_plain (item_shape t i)) (is_plain (item_shape t j)) near o (subst (λ x. is_settled t x ≡ true) si (item_settled i));
      }

  -- the item of arrays of objects
  no_place : (s : Shape) → place_of s ≡ None → is_reference s ≡ true → is_settled t s ≡ true → s ≡ Class None false
  no_place (Class None false) p r e = refl
  no_place (Class None true) p r e = absurd (cc)
  no_place (Class (Some c) b) p r e = absurd (cc)
  no_place (Array n i) p r e = absurd (cc)
  no_place s p r e = absurd (cc)

  pub object_is : item_shape t t.object ≡ Class None false
  object_is = no_place (item_shape t t.object) m.object m.objects (item_settled t.object)

  -- ---- chains

  chain_up : (c d : ℕ) → nearest t.chains c d ≡ Some d → is_in_chain t.chains c d ≡ true
  chain_up c d n = chained.in_chain t.chains m.chains c d (chained.least_left t.chains m.chains c d d n)

  chain_on : (c d e : ℕ) → nearest t.chains c d ≡ Some d → is_in_chain t.chains d e ≡ true → is_in_chain t.chains c e ≡ true
  chain_on c d e n h = chained.in_chain t.chains m.chains c e (chained.up_on t.chains m.chains c d e (chained.least_left t.chains m.chains c d d n) (chained.from_chain t.chains m.chains d e h))

  -- ---- items

  plain_of : (a c : ℕ) (plain other : Bool) → (plain ≡ true) ⊎ ((a ≡ c) × (plain ≡ other)) → other ≡ true → plain ≡ true
  plain_of a c plain other (inl p) e = p
  plain_of a c plain other (inr p) e = p.1 ∙ e

  lower_fits : (a c d : ℕ) (plain other pl : Bool) → (plain ≡ true) ⊎ ((a ≡ c) × (plain ≡ other)) → (is_in_chain t.chains c d ≡ true → is_in_chain t.chains a d ≡ true) → (not pl || (other && is_in_chain t.chains c d)) ≡ true → (not pl || (plain && is_in_chain t.chains a d)) ≡ true
  lower_fits a c d plain other false s up h = refl
  lower_fits a c d plain other true s up h =
      let o = left_true other (is_in_chain t.chains c d) h in
      let r = up (right_true other (is_in_chain t.chains c d) h) in
      let p = plain_of a c plain other s o in
      rw (p, r) refl

  class_on : (a c : ℕ) (plain other : Bool) (u : Shape) → nearest t.chains a c ≡ Some c → (plain ≡ true) ⊎ ((a ≡ c) × (plain ≡ other)) → item_fits t (Class (Some c) other) u ≡ true → item_fits t (Class (Some a) plain) u ≡ true
  class_on a c plain other (Class (Some d) pl) n s h = lower_fits a c d plain other pl s (chain_on a c d n) h
  class_on a c plain other (Class None pl) n s h = refl
  class_on a c plain other (Array x y) n s h = refl
  class_on a c plain other u n s h = absurd (cc)

  -- what an item fits, each below it fits
  item_on : (i j : Option ℕ) (u : Shape) → AreItems t i j → item_fits t (item_shape t j) u ≡ true → item_fits t (item_shape t i) u ≡ true
  item_on i j u w h =
      subst (λ x. item_fits t x u ≡ true) (sym w.is_lower)
      (class_on w.lower w.upper w.plain w.other u w.near w.settles (subst (λ x. item_fits t x u ≡ true) w.is_upper h))

  or_same : (other r : Bool) → (other ≡ true → r ≡ true) → (not other || r) ≡ true
  or_same true r f = f refl
  or_same false r f = refl

  item_up : (i j : Option ℕ) → AreItems t i j → item_fits t (item_shape t i) (item_shape t j) ≡ true
  item_up i j w =
      let f : item_fits t (Class (Some w.lower) w.plain) (Class (Some w.upper) w.other) ≡ true = or_same w.other (w.plain && is_in_chain t.chains w.lower w.upper) (λ o. let p = plain_of w.lower w.upper w.plain w.other w.settles o in let r = chain_up w.lower w.upper w.near in rw (p, r) refl) in
      subst (λ x. item_fits t x (item_shape t j) ≡ true) (sym w.is_lower) (subst (λ x. item_fits t (Class (Some w.lower) w.plain) x ≡ true) (sym w.is_upper) f)

  -- ---- arrays

  or_right : (a b : Bool) → b ≡ true → (a || b) ≡ true
  or_right true b e = refl
  or_right false b e = e

  or_both : (a b : Bool) → (a || b) ≡ true → (a ≡ true) ⊎ (b ≡ true)
  or_both true b e = inl refl
  or_both false b e = inr e

  level_on : (i j : Option ℕ) (upper : ℕ) → AreItems t i j → (same_number j (Some upper) || item_fits t (item_shape t j) (item_shape t (Some upper))) ≡ true → (same_number i (Some upper) || item_fits t (item_shape t i) (item_shape t (Some upper))) ≡ true
  level_on i j upper w h = elim (or_both (same_number j (Some upper)) (item_fits t (item_shape t j) (item_shape t (Some upper))) h) [
    | inl e ↦ or_right (same_number i (Some upper)) (item_fits t (item_shape t i) (item_shape t (Some upper))) (subst (λ x. item_fits t (item_shape t i) (item_shape t x) ≡ true) (number_is j (Some upper) e) (item_up i j w))
    | inr e ↦ or_right (same_number i (Some upper)) (item_fits t (item_shape t i) (item_shape t (Some upper))) (item_on i j (item_shape t (Some upper)) w e)
  ]

  items_on : (n : ℕ) (i j : Option ℕ) (most upper : ℕ) → AreItems t i j → array_fits t n j most upper ≡ true → array_fits t n i most upper ≡ true
  items_on n i j most upper w h = go (nat_eq n most) h
    where
      go : (b : Bool) → (if b then (same_number j (Some upper) || item_fits t (item_shape t j) (item_shape t (Some upper))) else nat_lt most n && is_reference (item_shape t (Some upper)) && not (is_plain (item_shape t (Some upper)))) ≡ true → (if b then (same_number i (Some upper) || item_fits t (item_shape t i) (item_shape t (Some upper))) else nat_lt most n && is_reference (item_shape t (Some upper)) && not (is_plain (item_shape t (Some upper)))) ≡ true
      go true h = level_on i j upper w h
      go false h = h

  -- a type of objects that is no program class, or an interface
  record IsOpen (u : Shape) : Type 0 where
    reference : is_reference u ≡ true
    open_too : not (is_plain u) ≡ true

  open_object : (u : Shape) → is_settled t u ≡ true → item_fits t (Class None false) u ≡ true → IsOpen u
  open_object (Class (Some c) false) s h = record { reference = refl; open_too = refl }
  open_object (Class (Some c) true) s h = absurd (cc)
  open_object (Class None false) s h = record { reference = refl; open_too = refl }
  open_object (Class None true) s h = absurd (cc)
  open_object (Array n i) s h = record { reference = refl; open_too = refl }
  open_object u s h = absurd (cc)

  open_level : (upper : ℕ) → (same_number t.object (Some upper) || item_fits t (item_shape t t.object) (item_shape t (Some upper))) ≡ true → IsOpen (item_shape t (Some upper))
  open_level upper h = elim (or_both (same_number t.object (Some upper)) (item_fits t (item_shape t t.object) (item_shape t (Some upper))) h) [
    | inl e ↦ subst IsOpen (sym object_is ∙ ap (item_shape t) (number_is t.object (Some upper) e)) (record { reference = refl; open_too = refl })
    | inr e ↦ open_object (item_shape t (Some upper)) (item_settled (Some upper)) (subst (λ x. item_fits t x (item_shape t (Some upper)) ≡ true) object_is e)
  ]

  open_fits : (s u : Shape) → is_reference s ≡ true → IsOpen u → item_fits t s u ≡ true
  open_fits s (Class (Some c) false) r o = rw r refl
  open_fits s (Class (Some c) true) r o = absurd (let q = o.open_too in cc)
  open_fits s (Class None b) r o = rw r refl
  open_fits s (Array n i) r o = rw r refl
  open_fits s u r o = absurd (let q = o.reference in cc)

  -- an array that has more in common with arrays of objects than being an object
  item_reference : (i : Option ℕ) → is_flat t 1 i ≡ false → is_reference (item_shape t i) ≡ true
  item_reference i e = go (is_reference (item_shape t i)) e
    where
      go : (b : Bool) → not b ≡ false → b ≡ true
      go true e = refl
      go false e = absurd (cc)

  all_three : (a b c : Bool) → a ≡ true → b ≡ true → c ≡ true → (a && b && c) ≡ true
  all_three a b c p q r = rw (p, q, r) refl

  deep_one : (n : ℕ) (i : Option ℕ) (upper : ℕ) → nat_lt 0 n ≡ true → is_flat t n i ≡ false → IsOpen (item_shape t (Some upper)) → array_fits t n i 1 upper ≡ true
  deep_one n i upper p f o = go (nat_eq n 1) refl
    where
      go : (b : Bool) → nat_eq n 1 ≡ b → (if b then (same_number i (Some upper) || item_fits t (item_shape t i) (item_shape t (Some upper))) else nat_lt 1 n && is_reference (item_shape t (Some upper)) && not (is_plain (item_shape t (Some upper)))) ≡ true
      go true e = or_right (same_number i (Some upper)) (item_fits t (item_shape t i) (item_shape t (Some upper))) (open_fits (item_shape t i) (item_shape t (Some upper)) (item_reference i (subst (λ x. is_flat t x i ≡ false) (eqb-true n 1 e) f)) o)
      go false e = all_three (nat_lt 1 n) (is_reference (item_shape t (Some upper))) (not (is_plain (item_shape t (Some upper)))) (lt-ltb 1 n (let l = ltb-true 0 n p in let w = eqb-false n 1 e in more n l w)) o.reference o.open_too
        where
          more : (x : ℕ) → 0 < x → (x ≡ 1 → ⊥) → 1 < x
          more zero l w = absurd (omega (arith, l))
          more (suc zero) l w = absurd (w refl)
          more (suc (suc x)) l w = omega arith

  deep_far : (n : ℕ) (i : Option ℕ) (most upper : ℕ) → nat_lt 0 n ≡ true → (nat_lt most 1 && is_reference (item_shape t (Some upper)) && not (is_plain (item_shape t (Some upper)))) ≡ true → array_fits t n i most upper ≡ true
  deep_far n i most upper p h =
      let front = left_true (nat_lt most 1 && is_reference (item_shape t (Some upper))) (not (is_plain (item_shape t (Some upper)))) h in
      let z = ltb-true most 1 (left_true (nat_lt most 1) (is_reference (item_shape t (Some upper))) front) in
      let o = right_true (nat_lt most 1) (is_reference (item_shape t (Some upper))) front in
      let q = right_true (nat_lt most 1 && is_reference (item_shape t (Some upper))) (not (is_plain (item_shape t (Some upper)))) h in
      let l = ltb-true 0 n p in
      let ne : nat_eq n most ≡ false = ne_eqb n most (λ e. omega (arith, z, l, e)) in
      let lt : nat_lt most n ≡ true = lt-ltb most n (omega (arith, z, l)) in
      rw ne (all_three (nat_lt most n) (is_reference (item_shape t (Some upper))) (not (is_plain (item_shape t (Some upper)))) lt o q)

  deep_on : (n : ℕ) (i : Option ℕ) (most upper : ℕ) → nat_lt 0 n ≡ true → is_flat t n i ≡ false → array_fits t 1 t.object most upper ≡ true → array_fits t n i most upper ≡ true
  deep_on n i most upper p f h = go (nat_eq 1 most) refl h
    where
      go : (b : Bool) → nat_eq 1 most ≡ b → (if b then (same_number t.object (Some upper) || item_fits t (item_shape t t.object) (item_shape t (Some upper))) else nat_lt most 1 && is_reference (item_shape t (Some upper)) && not (is_plain (item_shape t (Some upper)))) ≡ true → array_fits t n i most upper ≡ true
      go true e h = subst (λ x. array_fits t n i x upper ≡ true) (eqb-true 1 most e) (deep_one n i upper p f (open_level upper h))
      go false e h = deep_far n i most upper p h

  -- ---- kinds

  null_array : (a : Kind) (most upper : ℕ) → is_null a ≡ true → fits_array t a most upper ≡ true
  null_array kind.Zero most upper e = refl
  null_array kind.Null most upper e = refl
  null_array a most upper e = absurd (cc)

  pub array_below : (a b : Kind) (most upper : ℕ) → Below t a b → fits_array t b most upper ≡ true → fits_array t a most upper ≡ true
  array_below a b most upper h f = elim (under t a b h) [
    | itself e ↦ subst (λ x. fits_array t x most upper ≡ true) (sym e) f
    | unknown e ↦ absurd (let g : fits_array t kind.Undefined most upper ≡ true = subst (λ x. fits_array t x most upper ≡ true) e f in cc)
    | word p e ↦ absurd (let g : fits_array t kind.Word most upper ≡ true = subst (λ x. fits_array t x most upper ≡ true) e f in cc)
    | empty p q ↦ null_array a most upper p
    | any p e ↦ absurd (let g : fits_array t kind.Reference most upper ≡ true = subst (λ x. fits_array t x most upper ≡ true) e f in cc)
    | classes c d p e n ↦ absurd (let g : fits_array t (kind.Program d) most upper ≡ true = subst (λ x. fits_array t x most upper ≡ true) e f in cc)
    | items n i j c p q e w z ↦ subst (λ x. fits_array t x most upper ≡ true) (sym q) (items_on n i j most upper (are_items i j c w z) (subst (λ x. fits_array t x most upper ≡ true) e f))
    | deep n i p w q e ↦ subst (λ x. fits_array t x most upper ≡ true) (sym q) (deep_on n i most upper p w (subst (λ x. fits_array t x most upper ≡ true) e f))
  ]

  null_class : (a : Kind) (c : ℕ) → is_null a ≡ true → is_below_class t a c ≡ true
  null_class kind.Zero c e = refl
  null_class kind.Null c e = refl
  null_class a c e = absurd (cc)

  below_class : (a b : Kind) (k : ℕ) → Below t a b → is_below_class t b k ≡ true → is_below_class t a k ≡ true
  below_class a b k h f = elim (under t a b h) [
    | itself e ↦ subst (λ x. is_below_class t x k ≡ true) (sym e) f
    | unknown e ↦ absurd (let g : is_below_class t kind.Undefined k ≡ true = subst (λ x. is_below_class t x k ≡ true) e f in cc)
    | word p e ↦ absurd (let g : is_below_class t kind.Word k ≡ true = subst (λ x. is_below_class t x k ≡ true) e f in cc)
    | empty p q ↦ null_class a k p
    | any p e ↦ absurd (let g : is_below_class t kind.Reference k ≡ true = subst (λ x. is_below_class t x k ≡ true) e f in cc)
    | classes c d p e n ↦ subst (λ x. is_below_class t x k ≡ true) (sym p) (chain_on c d k n (subst (λ x. is_below_class t x k ≡ true) e f))
    | items n i j c p q e w z ↦ absurd (let g : is_below_class t (kind.Array n j) k ≡ true = subst (λ x. is_below_class t x k ≡ true) e f in cc)
    | deep n i p w q e ↦ absurd (let g : is_below_class t (kind.Array 1 t.object) k ≡ true = subst (λ x. is_below_class t x k ≡ true) e f in cc)
  ]

  class_below : (a b : Kind) (p : Option ℕ) (plain : Bool) → Below t a b → fits_class t b p plain ≡ true → fits_class t a p plain ≡ true
  class_below a b (Some c) true h f = below_class a b c h f
  class_below a b (Some c) false h f = made_below t a b h f
  class_below a b None plain h f = made_below t a b h f

  pub shape_below : (a b : Kind) (s : Shape) → Below t a b → fits_shape t b s ≡ true → fits_shape t a s ≡ true
  shape_below a b Int h f = number_below t a b h f
  shape_below a b (Word i) h f = number_below t a b h f
  shape_below a b (Array n i) h f = array_below a b n i h f
  shape_below a b (Class p plain) h f = class_below a b p plain h f
  shape_below a b Void h f = made_below t a b h f
  shape_below a b Wide h f = made_below t a b h f

  pub fits_below : (a b : Kind) (type : ℕ) → Below t a b → fits t b type ≡ true → fits t a type ≡ true
  fits_below a b type h f = shape_below a b (shape_of t type) h f

  null_below : (a b : Kind) → Below t a b → is_null b ≡ true → is_null a ≡ true
  null_below a b h e = elim (under t a b h) [
    | itself q ↦ subst (λ x. is_null x ≡ true) (sym q) e
    | unknown q ↦ absurd (let g : is_null kind.Undefined ≡ true = subst (λ x. is_null x ≡ true) q e in cc)
    | word p q ↦ absurd (let g : is_null kind.Word ≡ true = subst (λ x. is_null x ≡ true) q e in cc)
    | empty p r ↦ p
    | any p q ↦ absurd (let g : is_null kind.Reference ≡ true = subst (λ x. is_null x ≡ true) q e in cc)
    | classes c d p q n ↦ absurd (let g : is_null (kind.Program d) ≡ true = subst (λ x. is_null x ≡ true) q e in cc)
    | items n i j c p q w z v ↦ absurd (let g : is_null (kind.Array n j) ≡ true = subst (λ x. is_null x ≡ true) w e in cc)
    | deep n i p w q v ↦ absurd (let g : is_null (kind.Array 1 t.object) ≡ true = subst (λ x. is_null x ≡ true) v e in cc)
  ]

  pub holder_fits_below : (a b : Kind) (type : ℕ) → Below t a b → fits_holder t b type ≡ true → fits_holder t a type ≡ true
  holder_fits_below a b type h e = go (is_program_interface (shape_of t type)) (left_true (fits t b type) (not (is_program_interface (shape_of t type)) || is_null b) e) (right_true (fits t b type) (not (is_program_interface (shape_of t type)) || is_null b) e)
    where
      go : (x : Bool) → fits t b type ≡ true → (not x || is_null b) ≡ true → (fits t a type && (not x || is_null a)) ≡ true
      go true f g = ap (λ y. y && is_null a) (fits_below a b type h f) ∙ null_below a b h g
      go false f g = ap (λ y. y && true) (fits_below a b type h f)

  item_below : (a b : Kind) (s : Shape) → Below t a b → fits_item_of t b s ≡ true → fits_item_of t a s ≡ true
  item_below a b (Array n i) h f = go (nat_lt 1 n) f
    where
      go : (x : Bool) → (if x then fits_array t b (n - 1) i else fits_shape t b (item_shape t (Some i))) ≡ true → (if x then fits_array t a (n - 1) i else fits_shape t a (item_shape t (Some i))) ≡ true
      go true f = array_below a b (n - 1) i h f
      go false f = shape_below a b (item_shape t (Some i)) h f
  item_below a b s h f = absurd (cc)

  pub fits_item_below : (a b : Kind) (type : ℕ) → Below t a b → fits_item t b type ≡ true → fits_item t a type ≡ true
  fits_item_below a b type h f = item_below a b (shape_of t type) h f
