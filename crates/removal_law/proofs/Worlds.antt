-- The kinds of the things in a world: what makes, writes and shows things keeps them.
use Rattle.std.proofs.Common.{◌≡◌, ℕ, zero, suc, ◌+◌, Bool, true, false, List, [], ◌∷◌, ◌++◌, refl, ap, ◌∙◌, subst}
use Rattle.std.specs.Prelude.{Option, Some, None, slice_get, slice_set}
use Rattle.insn_set.specs.declared.ops.Item.{Item}
use Rattle.insn_set.specs.declared.ops.Item.TheVariants as item
use Rattle.dalvik_defs.specs.Effect.{write_item, next}
use Rattle.dalvik_defs.specs.Names.{Text, string_type, class_type}
use Rattle.dalvik_defs.specs.State.{World, Thing, kind_of_thing, kind_of, put_thing, thing_at}
use Rattle.dalvik_defs.specs.declared.state.Value.{Value}
use Rattle.dalvik_defs.specs.declared.state.Value.TheVariants.{Word, Low, High, Object, Literal, Class}
use Rattle.dalvik_defs.specs.declared.state.Frame.{Frame}
use Rattle.dalvik_defs.specs.declared.events.Shown.{Shown}
use Rattle.dalvik_defs.specs.declared.events.Shown.TheVariants as shown
use Rattle.dalvik_defs.specs.Show.{place_in, mark_printed, is_printed, show_at, show, show_all, skip, show_option}
use Rattle.removal_law.specs.Agree.{Each}
use Rattle.removal_law.proofs.Lists.{clash}

abbrev pub Kinds : (Text → Type 0) → List Thing → Type 0
Kinds P ts = Each (λ t. P (kind_of_thing t)) ts

module _ (P : Text → Type 0) where
  pub kinds_append : (ts : List Thing) (t : Thing) → Kinds P ts → P (kind_of_thing t) → Kinds P (ts ++ t ∷ [])
  kinds_append [] t h k = (k, tt)
  kinds_append (x ∷ ts) t h k = (h.0, kinds_append ts t h.1 k)

  pub kinds_set : (ts : List Thing) (n : ℕ) (t : Thing) → Kinds P ts → P (kind_of_thing t) → Kinds P (slice_set ts n t)
  kinds_set [] n t h k = tt
  kinds_set (x ∷ ts) zero t h k = (k, h.1)
  kinds_set (x ∷ ts) (suc n) t h k = (h.0, kinds_set ts n t h.1 k)

  pub kinds_get : (ts : List Thing) (n : ℕ) (t : Thing) → Kinds P ts → slice_get ts n ≡ Some t → P (kind_of_thing t)
  kinds_get [] n t h e = clash true refl (ap (λ o. elim o [ Some x ↦ false | None ↦ true ]) e)
  kinds_get (x ∷ ts) zero t h e = subst (λ y. P (kind_of_thing y)) (ap (λ o. elim o [ Some y ↦ y | None ↦ x ]) e) h.0
  kinds_get (x ∷ ts) (suc n) t h e = kinds_get ts n t h.1 e

  pub kinds_put : (w : World) (v : Value) (t : Thing) → Kinds P w.heap → P (kind_of_thing t) → Kinds P (put_thing w v t).heap
  kinds_put w (Object n) t h k = kinds_set w.heap n t h k
  kinds_put w (Word n) t h k = h
  kinds_put w (Low n) t h k = h
  kinds_put w (High n) t h k = h
  kinds_put w (Literal s) t h k = h
  kinds_put w (Class s) t h k = h

  pub kinds_at : (w : World) (v : Value) (t : Thing) → Kinds P w.heap → thing_at w v ≡ Some t → P (kind_of_thing t)
  kinds_at w (Object n) t h e = kinds_get w.heap n t h e
  kinds_at w (Word n) t h e = clash true refl (ap (λ o. elim o [ Some x ↦ false | None ↦ true ]) e)
  kinds_at w (Low n) t h e = clash true refl (ap (λ o. elim o [ Some x ↦ false | None ↦ true ]) e)
  kinds_at w (High n) t h e = clash true refl (ap (λ o. elim o [ Some x ↦ false | None ↦ true ]) e)
  kinds_at w (Literal s) t h e = clash true refl (ap (λ o. elim o [ Some x ↦ false | None ↦ true ]) e)
  kinds_at w (Class s) t h e = clash true refl (ap (λ o. elim o [ Some x ↦ false | None ↦ true ]) e)

  module _ (empty : P []) (string : P string_type) (class : P class_type) where
    kind_here : (o : Option Thing) → ((t : Thing) → o ≡ Some t → P (kind_of_thing t)) → P (elim o [ Some t ↦ kind_of_thing t | None ↦ [] ])
    kind_here None h = empty
    kind_here (Some t) h = h t refl

    pub kind_known : (w : World) (v : Value) → Kinds P w.heap → P (kind_of w v)
    kind_known w (Object n) h = kind_here (slice_get w.heap n) (λ t e. kinds_get w.heap n t h e)
    kind_known w (Literal t) h = string
    kind_known w (Class t) h = class
    kind_known w (Word n) h = empty
    kind_known w (Low n) h = empty
    kind_known w (High n) h = empty

-- ---- showing changes no thing

by_printed : (w : World) (n i : ℕ) (b : Bool) → (elim b as (λ b. World × Shown) [ true ↦ (w, shown.Again i) | false ↦ (record w { exposed = mark_printed n w.exposed }, shown.First i (kind_of w (Object n))) ]).0.heap ≡ w.heap
by_printed w n i true = refl
by_printed w n i false = refl

at_heap : (w : World) (n : ℕ) (o : Option ℕ) → (show_at w n o).0.heap ≡ w.heap
at_heap w n (Some i) = by_printed w n i (is_printed w.exposed i)
at_heap w n None = refl

pub show_heap : (w : World) (kind : Text) (v : Value) → (show w kind v).0.heap ≡ w.heap
show_heap w kind (Word n) = refl
show_heap w kind (Low n) = refl
show_heap w kind (High n) = refl
show_heap w kind (Object n) = at_heap w n (place_in w.exposed n)
show_heap w kind (Literal t) = refl
show_heap w kind (Class t) = refl

pub option_heap : (w : World) (kind : Text) (o : Option Value) → (show_option w kind o).0.heap ≡ w.heap
option_heap w kind None = refl
option_heap w kind (Some v) = show_heap w kind v

pub all_heap : (ks : List Text) (w : World) (vs : List Value) → (show_all w ks vs).0.heap ≡ w.heap
all_heap [] w vs = refl
all_heap (k ∷ ks) w [] = refl
all_heap (k ∷ ks) w (v ∷ vs) = all_heap ks (show w k v).0 (skip k vs) ∙ show_heap w k v

-- a written item leaves the frame's method
pub item_method : (f : Frame) (i : Item) (to : ℕ) (v : Value) → (write_item i f to v).method ≡ f.method
item_method f item.Wide to v = refl
item_method f item.Plain to v = refl
item_method f item.Object to v = refl
item_method f item.Boolean to v = refl
item_method f item.Byte to v = refl
item_method f item.Char to v = refl
item_method f item.Short to v = refl

pub item_position : (f : Frame) (i : Item) (to : ℕ) (v : Value) → (next (write_item i f to v)).position ≡ f.position + 1
item_position f item.Wide to v = refl
item_position f item.Plain to v = refl
item_position f item.Object to v = refl
item_position f item.Boolean to v = refl
item_position f item.Byte to v = refl
item_position f item.Char to v = refl
item_position f item.Short to v = refl
