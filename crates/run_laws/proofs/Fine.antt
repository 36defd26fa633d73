-- What is put, made, given or shown leaves references to what there is alone.
use Rattle.std.proofs.Common.{◌≡◌, ℕ, zero, suc, Bool, true, false, true≢false, List, [], ◌∷◌, ◌++◌, Option, Some, None, refl, sym, ap, ◌∙◌, subst, arith}
use Rattle.std.specs.Prelude.{nat_eq, length, map, drop, replicate, slice_get, slice_set, slice_index_or, is_some}
use Rattle.lemmas.proofs.Options.{none_some, some_same}
use Rattle.insn_set.specs.declared.ops.Item.{Item}
use Rattle.insn_set.specs.declared.ops.Item.TheVariants as item
use Rattle.dalvik_defs.specs.Names.{Text, is_wide}
use Rattle.dalvik_defs.specs.Items.{stored}
use Rattle.dalvik_defs.specs.State.{World, Exposed, Thing, Instance, Items, zero_of, kind_of_thing, kind_of, thing_at, put_thing, with_thing, next_object, fresh, put_field}
use Rattle.dalvik_defs.specs.ActArray.{zeros}
use Rattle.dalvik_defs.specs.Names.{field_eq}
use Rattle.dalvik_defs.specs.Show.{place_in, mark_printed, is_printed, show_at, show, show_all, show_option, skip}
use Rattle.dalvik_defs.specs.declared.state.Value.{Value}
use Rattle.dalvik_defs.specs.declared.state.Value.TheVariants.{Word, Low, Object}
use Rattle.dalvik_defs.specs.declared.state.Frame.{Frame}
use Rattle.dalvik_defs.specs.declared.names.FieldKey.{FieldKey}
use Rattle.dalvik_defs.specs.declared.events.Shown.{Shown}
use Rattle.dalvik_defs.specs.declared.events.Shown.TheVariants as shown
use Rattle.run_laws.specs.Invariant.{Grows}
use Rattle.run_laws.specs.Holds.{Each}
use Rattle.run_laws.specs.Fine.{IsThere, FineThing, FineWorld, FineFrame}
use Rattle.run_laws.proofs.Growing.{grows_same, grows_with, grows_put, grows_over, show_heap, there_later}

-- ---- lists

module _ {A : Type 0} (P : A → Type 0) where
  pub each_append : (xs : List A) (x : A) → Each P xs → P x → Each P (xs ++ x ∷ [])
  each_append [] x h k = (k, tt)
  each_append (y ∷ xs) x h k = (h.0, each_append xs x h.1 k)

  pub each_set : (xs : List A) (n : ℕ) (x : A) → Each P xs → P x → Each P (slice_set xs n x)
  each_set [] n x h k = h
  each_set (y ∷ xs) zero x h k = (k, h.1)
  each_set (y ∷ xs) (suc n) x h k = (h.0, each_set xs n x h.1 k)

  pub each_get : (xs : List A) (n : ℕ) (x : A) → Each P xs → slice_get xs n ≡ Some x → P x
  each_get [] n x h e = none_some x e
  each_get (y ∷ xs) zero x h e = subst P (some_same y x e) h.0
  each_get (y ∷ xs) (suc n) x h e = each_get xs n x h.1 e

  pub each_join : (xs ys : List A) → Each P xs → Each P ys → Each P (xs ++ ys)
  each_join [] ys h k = k
  each_join (x ∷ xs) ys h k = (h.0, each_join xs ys h.1 k)

  pub each_drop : (n : ℕ) (xs : List A) → Each P xs → Each P (drop n xs)
  each_drop zero xs h = h
  each_drop (suc n) [] h = h
  each_drop (suc n) (x ∷ xs) h = each_drop n xs h.1

  pub each_same : (n : ℕ) (x : A) → P x → Each P (replicate n x)
  each_same zero x h = tt
  each_same (suc n) x h = (h, each_same n x h)

  pub each_or : (xs : List A) (n : ℕ) (d : A) → Each P xs → P d → P (slice_index_or xs n d)
  each_or [] n d h k = k
  each_or (x ∷ xs) zero d h k = h.0
  each_or (x ∷ xs) (suc n) d h k = each_or xs n d h.1 k

pub each_to : {A : Type 0} (P Q : A → Type 0) → ((x : A) → P x → Q x) → (xs : List A) → Each P xs → Each Q xs
each_to P Q f [] h = tt
each_to P Q f (x ∷ xs) h = (f x h.0, each_to P Q f xs h.1)

pub each_map : {A B : Type 0} (P : B → Type 0) (f : A → B) → ((x : A) → P (f x)) → (xs : List A) → Each P (map f xs)
each_map P f h [] = tt
each_map P f h (x ∷ xs) = (h x, each_map P f h xs)

-- ---- worlds

thing_later : (w w1 : World) → Grows w w1 → (t : Thing) → FineThing w t → FineThing w1 t
thing_later w w1 g (Instance c fields) h = λ k v e. there_later w w1 g v (h k v e)
thing_later w w1 g (Items k vs) h = each_to (IsThere w) (IsThere w1) (there_later w w1 g) vs h

pub frame_later : (w w1 : World) (f : Frame) → Grows w w1 → FineFrame w f → FineFrame w1 f
frame_later w w1 f g h = record { registers = each_to (IsThere w) (IsThere w1) (there_later w w1 g) f.registers h.registers; result = there_later w w1 g f.result h.result; caught = there_later w w1 g f.caught h.caught }

-- a world with the same things but for what its heap has more
fine_over : (w w1 : World) → Grows w w1 → FineWorld w → w1.statics ≡ w.statics → w1.exposed ≡ w.exposed → Each (FineThing w1) w1.heap → FineWorld w1
fine_over w w1 g h s x t = record {
  statics = λ k v e. there_later w w1 g v (h.statics k v (ap (λ y. y k) (sym s) ∙ e));
  things = t;
  exposed = subst (λ es. Each (λ e. IsThere w1 (Object e.number)) es) (sym x) (each_to (λ e. IsThere w (Object e.number)) (λ e. IsThere w1 (Object e.number)) (λ e. there_later w w1 g (Object e.number)) w.exposed h.exposed);
}

pub fine_with : (w : World) (t : Thing) → FineWorld w → FineThing w t → FineWorld (with_thing w t)
fine_with w t h k = let w1 = with_thing w t in let g = grows_with w t in
    fine_over w w1 g h refl refl (each_append (FineThing w1) w.heap t (each_to (FineThing w) (FineThing w1) (thing_later w w1 g) w.heap h.things) (thing_later w w1 g t k))

pub fine_put : (w : World) (v : Value) (old t : Thing) → thing_at w v ≡ Some old → kind_of_thing t ≡ kind_of_thing old → FineWorld w → FineThing w t → FineWorld (put_thing w v t)
fine_put w (Object n) old t e i h k = let w1 = put_thing w (Object n) t in let g = grows_put w (Object n) old t e i in
    fine_over w w1 g h refl refl (each_set (FineThing w1) w.heap n t (each_to (FineThing w) (FineThing w1) (thing_later w w1 g) w.heap h.things) (thing_later w w1 g t k))
fine_put w v old t e i h k = h

pub fine_put_over : (w w1 : World) (v : Value) (old t : Thing) → Grows w w1 → thing_at w v ≡ Some old → kind_of_thing t ≡ kind_of_thing old → FineWorld w1 → FineThing w1 t → FineWorld (put_thing w1 v t)
fine_put_over w w1 (Object n) old t g e i h k = let w2 = put_thing w1 (Object n) t in let g2 = grows_over w w1 (Object n) old t g e i in
    fine_over w1 w2 g2 h refl refl (each_set (FineThing w2) w1.heap n t (each_to (FineThing w1) (FineThing w2) (thing_later w1 w2 g2) w1.heap h.things) (thing_later w1 w2 g2 t k))
fine_put_over w w1 v old t g e i h k = h

last_some : (xs : List Thing) (t : Thing) → is_some (slice_get (xs ++ t ∷ []) (length xs)) ≡ true
last_some xs t = at_end xs (length xs) refl
  where
    at_end : (xs : List Thing) (n : ℕ) → n ≡ length xs → is_some (slice_get (xs ++ t ∷ []) n) ≡ true
    at_end [] zero e = refl
    at_end [] (suc n) e = absurd (omega (arith, e))
    at_end (y ∷ ys) zero e = absurd (omega (arith, e))
    at_end (y ∷ ys) (suc n) e = at_end ys n (omega (arith, e))

pub new_there : (w : World) (t : Thing) → IsThere (with_thing w t) (next_object w)
new_there w t = last_some w.heap t

pub at_there : (w : World) (v : Value) (t : Thing) → FineWorld w → thing_at w v ≡ Some t → FineThing w t
at_there w (Object n) t h e = each_get (FineThing w) w.heap n t h.things e
at_there w v t h e = none_some t e

-- ---- values

pub zero_there : (w : World) (t : Text) → IsThere w (zero_of t)
zero_there w t = by (is_wide t)
  where
    by : (b : Bool) → IsThere w (elim b as (λ b. Value) [ true ↦ Low 0 | false ↦ Word 0 ])
    by true = tt
    by false = tt

pub stored_there : (w : World) (i : Item) (v : Value) → IsThere w v → IsThere w (stored i v)
stored_there w item.Plain v h = h
stored_there w item.Wide v h = h
stored_there w item.Object v h = h
stored_there w i v h = tt

pub fresh_fine : (w : World) (t : Text) → FineThing w (fresh t)
fresh_fine w t = λ k v e. none_some v e

pub zeros_fine : (w : World) (t : Text) (n : ℕ) → FineThing w (zeros t n)
zeros_fine w t n = each_same (IsThere w) n (zero_of t) (zero_there w t)

pub put_there : (w : World) (k : FieldKey) (v : Value) (fields : FieldKey → Option Value) → ((j : FieldKey) (u : Value) → fields j ≡ Some u → IsThere w u) → IsThere w v → (j : FieldKey) (u : Value) → put_field k v fields j ≡ Some u → IsThere w u
put_there w k v fields h i j u e = by (field_eq j k) e
  where
    by : (b : Bool) → (elim b as (λ b. Option Value) [ true ↦ Some v | false ↦ fields j ]) ≡ Some u → IsThere w u
    by true e = subst (IsThere w) (some_same v u e) i
    by false e = h j u e

-- ---- showing

marked : (w : World) (m : ℕ) (es : List Exposed) → Each (λ e. IsThere w (Object e.number)) es → Each (λ e. IsThere w (Object e.number)) (mark_printed m es)
marked w m [] h = tt
marked w m (x ∷ es) h = by (nat_eq x.number m) (marked w m es h.1)
  where
    by : (b : Bool) → Each (λ e. IsThere w (Object e.number)) (mark_printed m es) → Each (λ e. IsThere w (Object e.number)) (elim b as (λ b. List Exposed) [ true ↦ record x { printed = true } ∷ es | false ↦ x ∷ mark_printed m es ])
    by true k = h
    by false k = (h.0, k)

fine_exposed : (w : World) (es : List Exposed) → FineWorld w → Each (λ e. IsThere w (Object e.number)) es → FineWorld (record w { exposed = es })
fine_exposed w es h k = record { statics = h.statics; things = h.things; exposed = k }

printed : (w : World) (m i : ℕ) (b : Bool) (k : Text) → FineWorld w → FineWorld (elim b as (λ b. World × Shown) [ true ↦ (w, shown.Again i) | false ↦ (record w { exposed = mark_printed m w.exposed }, shown.First i k) ]).0
printed w m i true k h = h
printed w m i false k h = fine_exposed w (mark_printed m w.exposed) h (marked w m w.exposed h.exposed)

shows_at : (w : World) (m : ℕ) (o : Option ℕ) → FineWorld w → IsThere w (Object m) → FineWorld (show_at w m o).0
shows_at w m (Some i) h j = printed w m i (is_printed w.exposed i) (kind_of w (Object m)) h
shows_at w m None h j = fine_exposed w (w.exposed ++ record { number = m; printed = true } ∷ []) h (each_append (λ e. IsThere w (Object e.number)) w.exposed (record { number = m; printed = true }) h.exposed j)

pub fine_show : (w : World) (t : Text) (v : Value) → FineWorld w → IsThere w v → FineWorld (show w t v).0
fine_show w t (Object n) h i = shows_at w n (place_in w.exposed n) h i
fine_show w t v h i = h

pub fine_option : (w : World) (t : Text) (o : Option Value) → FineWorld w → ((v : Value) → o ≡ Some v → IsThere w v) → FineWorld (show_option w t o).0
fine_option w t None h i = h
fine_option w t (Some v) h i = fine_show w t v h (i v refl)

pub same_there : (w w1 : World) → w1.heap ≡ w.heap → (vs : List Value) → Each (IsThere w) vs → Each (IsThere w1) vs
same_there w w1 e vs h = each_to (IsThere w) (IsThere w1) (there_later w w1 (grows_same w w1 e)) vs h

skip_there : (w : World) (k : Text) (vs : List Value) → Each (IsThere w) vs → Each (IsThere w) (skip k vs)
skip_there w k vs h = by (is_wide k)
  where
    by : (b : Bool) → Each (IsThere w) (elim b as (λ b. List Value) [ true ↦ drop 1 vs | false ↦ vs ])
    by true = each_drop (IsThere w) 1 vs h
    by false = h

pub fine_all : (ks : List Text) (w : World) (vs : List Value) → FineWorld w → Each (IsThere w) vs → FineWorld (show_all w ks vs).0
fine_all [] w vs h i = h
fine_all (k ∷ ks) w [] h i = h
fine_all (k ∷ ks) w (v ∷ vs) h i = fine_all ks (show w k v).0 (skip k vs) (fine_show w k v h i.0) (skip_there (show w k v).0 k vs (same_there w (show w k v).0 (show_heap w k v) vs i.1))
