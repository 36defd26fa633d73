-- Worlds in which arrays are made and changed stay sound.
use Rattle.std.proofs.Common.{◌≡◌, ℕ, zero, suc, ◌+◌, ◌<◌, ◌≤◌, ◌⊎◌, inl, inr, List, [], ◌∷◌, ◌++◌, length, map, arith, ap, refl, sym, subst, ◌∙◌, length-append}
use Rattle.std.specs.Prelude.{ℤ, pos, negsuc, ◌^◌, Option, Some, None, slice_get, slice_set, replicate}
use Rattle.std.specs.Option.{option_map}
use Rattle.insn_set.specs.declared.ops.Item.{Item}
use Rattle.dalvik_lookups.specs.declared.lookups.Lookups.{Lookups}
use Rattle.dalvik_lookups.specs.declared.types.Kind.{Kind}
use Rattle.dalvik_lookups.proofs.Interned.{got_last}
use Rattle.dalvik_defs.specs.Show.{place_in}
use Rattle.dalvik_state.specs.declared.datum.Datum.{Datum}
use Rattle.dalvik_state.specs.declared.datum.Datum.TheVariants as datum
use Rattle.dalvik_state.specs.declared.world.Thing.{Thing}
use Rattle.dalvik_state.specs.declared.world.World.{World}
use Rattle.dalvik_defs.specs.Names.{is_wide}
use Rattle.dalvik_lookups.specs.Views.{type_text}
use Rattle.dalvik_state.specs.declared.frame.Frame.{Frame}
use Rattle.dalvik_state.specs.declared.effect.Effect.TheVariants as effect
use Rattle.dalvik_state.specs.Frames.{cell, fill_in, zero_in, IsMoved}
use Rattle.dalvik_state.specs.States.{kind_within, AreKinds, ArePlaced, IsFineKind, IsSound}
use Rattle.dalvik_state.specs.Views.{AreFine, IsFine, IsFineFrame, IsFineShape, exposed_of, names_in}
use Rattle.dalvik_state.specs.Worlds.{Shape, Plain, Array, Spot, fill_shape, new_spot, put_shape, reshape, reshape_at, shape_at, shape_of, spots_of, IsHeap, IsShort, IsShortShape}
use Rattle.dalvik_state.proofs.Fine.{as_many, fine_added, fine_alike, fine_cells, fine_changed, fine_moved, fine_put, fine_read, fine_refill, fine_zero}
use Rattle.dalvik_state.proofs.Places.{place_past}
use Rattle.dalvik_state.specs.declared.effect.Effect.{Effect}
use Rattle.dalvik_act.specs.Acted.{IsFineEffect, IsGivenBack, IsKeptWorld, IsReady, IsSafe, IsSafeIn, IsSafely}
use Rattle.dalvik_act.proofs.Safe.{stays}
use Rattle.dalvik_act.specs.Acting.{contents_of, item_in}
use Rattle.dalvik_act.proofs.Elements.{with_contents}

pub kept_same : (l : Lookups) (w : World) → IsSound l w → IsKeptWorld l w w
kept_same l w s = record { sound = s; more = omega arith; locks = refl }

-- ---- a thing is added

placed_new : (w : World) (t : Thing) → ArePlaced (spots_of w) w.exposed.items → ArePlaced (spots_of w ++ new_spot t ∷ []) w.exposed.items
placed_new w t p = record {
  below = λ i e g. let low = p.below i e g in let long = length-append (spots_of w) (new_spot t ∷ []) in omega (arith, low, long);
  at = λ i s e. elim (got_last (spots_of w) (new_spot t) s i e) [
    | inl old ↦ p.at i s old
    | inr new ↦ ap (λ (y : Spot). y.place) new.1 ∙ sym (place_past (length (spots_of w)) w.exposed.items p.below i (let at = new.0 in omega (arith, at)))
  ];
}

pub sound_added : (l : Lookups) (old new : World) (t : Thing) → IsHeap old new (spots_of old ++ new_spot t ∷ []) → IsFineShape (names_in l) (length (spots_of old)) (shape_of t) → IsFineKind l (kind_within (shape_of t)) → IsShortShape (shape_of t) → IsSound l old → IsSound l new
sound_added l old new t h f k short w =
    let long = length-append (spots_of old) (new_spot t ∷ []) in
    let size : length (spots_of new) ≡ length (spots_of old ++ new_spot t ∷ []) = ap length h.heap in
    record {
      fine = fine_added (names_in l) old new t h f w.fine;
      kinds = record {
        at = λ i x e. elim (got_last (spots_of old) (new_spot t) x i (ap (λ (ss : List Spot). slice_get ss i) (sym h.heap) ∙ e)) [
          | inl was ↦ w.kinds.at i x was
          | inr is ↦ subst (λ (y : Spot). IsFineKind l (kind_within y.shape)) (sym is.1) k
        ];
      };
      placed = subst (λ es. ArePlaced (spots_of new) es.items) (sym h.exposed) (subst (λ (ss : List Spot). ArePlaced ss old.exposed.items) (sym h.heap) (placed_new old t w.placed));
      written = record { at = λ i e g. let low = w.written.at i e (ap (λ m. slice_get m.entries i) (sym h.fields) ∙ g) in omega (arith, low, size, long) };
      short = record {
        at = λ i x e. elim (got_last (spots_of old) (new_spot t) x i (ap (λ (ss : List Spot). slice_get ss i) (sym h.heap) ∙ e)) [
          | inl was ↦ w.short.at i x was
          | inr is ↦ subst (λ (y : Spot). IsShortShape y.shape) (sym is.1) short
        ];
      };
      statics = ap (λ v. length v.items) h.statics ∙ w.statics;
    }

pub kept_added : (l : Lookups) (old new : World) (t : Thing) → IsHeap old new (spots_of old ++ new_spot t ∷ []) → IsFineShape (names_in l) (length (spots_of old)) (shape_of t) → IsFineKind l (kind_within (shape_of t)) → IsShortShape (shape_of t) → IsSound l old → IsKeptWorld l old new
kept_added l old new t h f k short w =
    let long = length-append (spots_of old) (new_spot t ∷ []) in
    let size : length (spots_of new) ≡ length (spots_of old ++ new_spot t ∷ []) = ap length h.heap in
    record { sound = sound_added l old new t h f k short w; more = omega (arith, size, long); locks = h.locks }

-- the reference to it
pub fine_last : (l : Lookups) (old new : World) (t : Thing) (d : Datum) → IsHeap old new (spots_of old ++ new_spot t ∷ []) → d ≡ datum.Object (length (spots_of old)) → IsFine (names_in l) (length (spots_of new)) d
fine_last l old new t d h e =
    let long = length-append (spots_of old) (new_spot t ∷ []) in
    let size : length (spots_of new) ≡ length (spots_of old ++ new_spot t ∷ []) = ap length h.heap in
    let low : length (spots_of old) < length (spots_of new) = omega (arith, size, long) in
    subst (IsFine (names_in l) (length (spots_of new))) (sym e) low

-- ---- a thing is changed

-- what stands at a place: its shape is as it was, or changed
record IsReshaped (f : Shape → Shape) (ss : List Spot) (i : ℕ) (s : Spot) : Type 0 where
  old : Spot
  was : slice_get ss i ≡ Some old
  place : s.place ≡ old.place
  shape : (s.shape ≡ old.shape) ⊎ (s.shape ≡ f old.shape)

reshaped : (f : Shape → Shape) (ss : List Spot) (n i : ℕ) (s : Spot) → slice_get (reshape f ss n) i ≡ Some s → IsReshaped f ss i s
reshaped f [] n i s e = absurd (cc)
reshaped f (x ∷ ss) zero zero s e = let same : record x { shape = f x.shape } ≡ s = cc in record { old = x; was = refl; place = sym (ap (λ (y : Spot). y.place) same); shape = inr (sym (ap (λ (y : Spot). y.shape) same)) }
reshaped f (x ∷ ss) zero (suc i) s e = record { old = s; was = e; place = refl; shape = inl refl }
reshaped f (x ∷ ss) (suc n) zero s e = record { old = s; was = e; place = refl; shape = inl refl }
reshaped f (x ∷ ss) (suc n) (suc i) s e = let r = reshaped f ss n i s e in record { old = r.old; was = r.was; place = r.place; shape = r.shape }

reshaped_at : (f : Shape → Shape) (ss : List Spot) (d : Datum) (i : ℕ) (s : Spot) → slice_get (reshape_at f ss d) i ≡ Some s → IsReshaped f ss i s
reshaped_at f ss (datum.Object n) i s e = reshaped f ss n i s e
reshaped_at f ss (datum.Word x) i s e = record { old = s; was = e; place = refl; shape = inl refl }
reshaped_at f ss (datum.Low x) i s e = record { old = s; was = e; place = refl; shape = inl refl }
reshaped_at f ss (datum.High x) i s e = record { old = s; was = e; place = refl; shape = inl refl }
reshaped_at f ss (datum.Literal x) i s e = record { old = s; was = e; place = refl; shape = inl refl }
reshaped_at f ss (datum.Class x) i s e = record { old = s; was = e; place = refl; shape = inl refl }

-- a change that keeps types and lengths
record IsMild (f : Shape → Shape) : Type 0 where
  kind : (s : Shape) → kind_within (f s) ≡ kind_within s
  short : (s : Shape) → IsShortShape s → IsShortShape (f s)

module _ (l : Lookups) (old new : World) (f : Shape → Shape) (d : Datum) (m : IsMild f) (h : IsHeap old new (reshape_at f (spots_of old) d)) (w : IsSound l old) where
  long : length (spots_of new) ≡ length (spots_of old)
  long = ap length h.heap ∙ as_many (names_in l) f (spots_of old) d

  at_old : (i : ℕ) (x : Spot) → slice_get (spots_of new) i ≡ Some x → IsReshaped f (spots_of old) i x
  at_old i x e = reshaped_at f (spots_of old) d i x (ap (λ (ss : List Spot). slice_get ss i) (sym h.heap) ∙ e)

  kind_kept : (i : ℕ) (x : Spot) → IsReshaped f (spots_of old) i x → IsFineKind l (kind_within x.shape)
  kind_kept i x r = elim r.shape [
    | inl e ↦ subst (λ (s : Shape). IsFineKind l (kind_within s)) (sym e) (w.kinds.at i r.old r.was)
    | inr e ↦ subst (IsFineKind l) (sym (m.kind r.old.shape) ∙ sym (ap kind_within e)) (w.kinds.at i r.old r.was)
  ]

  short_kept : (i : ℕ) (x : Spot) → IsReshaped f (spots_of old) i x → IsShortShape x.shape
  short_kept i x r = elim r.shape [
    | inl e ↦ subst IsShortShape (sym e) (w.short.at i r.old r.was)
    | inr e ↦ subst IsShortShape (sym e) (m.short r.old.shape (w.short.at i r.old r.was))
  ]

  sound_changed : ((s : Shape) → IsFineShape (names_in l) (length (spots_of old)) s → IsFineShape (names_in l) (length (spots_of old)) (f s)) → IsSound l new
  sound_changed keeps =
      let size = long in
      record {
        fine = fine_changed (names_in l) old new f d keeps h w.fine;
        kinds = record { at = λ i x e. kind_kept i x (at_old i x e) };
        placed = subst (λ es. ArePlaced (spots_of new) es.items) (sym h.exposed) (record {
          below = λ i e g. let low = w.placed.below i e g in omega (arith, low, size);
          at = λ i s e. let r = at_old i s e in r.place ∙ w.placed.at i r.old r.was;
        });
        written = record { at = λ i e g. let low = w.written.at i e (ap (λ m. slice_get m.entries i) (sym h.fields) ∙ g) in omega (arith, low, size) };
        short = record { at = λ i x e. short_kept i x (at_old i x e) };
        statics = ap (λ v. length v.items) h.statics ∙ w.statics;
      }

  kept_changed : ((s : Shape) → IsFineShape (names_in l) (length (spots_of old)) s → IsFineShape (names_in l) (length (spots_of old)) (f s)) → IsKeptWorld l old new
  kept_changed keeps = let size = long in record { sound = sound_changed keeps; more = omega (arith, size); locks = h.locks }

set_long : (ds : List Datum) (i : ℕ) (d : Datum) → length (slice_set ds i d) ≡ length ds
set_long [] i d = refl
set_long (x ∷ xs) zero d = refl
set_long (x ∷ xs) (suc i) d = ap suc (set_long xs i d)

fill_long : (i : Item) (ns : List ℕ) (ds : List Datum) → length (fill_in i ns ds) ≡ length ds
fill_long i [] ds = refl
fill_long i (n ∷ ns) [] = refl
fill_long i (n ∷ ns) (d ∷ ds) = ap suc (fill_long i ns ds)

put_mild : (place : ℕ) (d : Datum) → IsMild (put_shape place d)
put_mild place d = record { kind = kind; short = short }
  where
    kind : (s : Shape) → kind_within (put_shape place d s) ≡ kind_within s
    kind (Plain k) = refl
    kind (Array k items) = refl

    short : (s : Shape) → IsShortShape s → IsShortShape (put_shape place d s)
    short (Plain k) h = tt
    short (Array k items) h = let e = set_long items place d in omega (arith, e, h)

fill_mild : (i : Item) (ns : List ℕ) → IsMild (fill_shape i ns)
fill_mild i ns = record { kind = kind; short = short }
  where
    kind : (s : Shape) → kind_within (fill_shape i ns s) ≡ kind_within s
    kind (Plain k) = refl
    kind (Array k items) = refl

    short : (s : Shape) → IsShortShape s → IsShortShape (fill_shape i ns s)
    short (Plain k) h = tt
    short (Array k items) h = let e = fill_long i ns items in omega (arith, e, h)

pub kept_put : (l : Lookups) (old new : World) (array d : Datum) (place : ℕ) → IsHeap old new (reshape_at (put_shape place d) (spots_of old) array) → IsFine (names_in l) (length (spots_of old)) d → IsSound l old → IsKeptWorld l old new
kept_put l old new array d place h f w = kept_changed l old new (put_shape place d) array (put_mild place d) h w (λ s k. fine_put (names_in l) (length (spots_of old)) place d s f k)

pub kept_filled : (l : Lookups) (old new : World) (array : Datum) (i : Item) (ns : List ℕ) → IsHeap old new (reshape_at (fill_shape i ns) (spots_of old) array) → IsSound l old → IsKeptWorld l old new
kept_filled l old new array i ns h w = kept_changed l old new (fill_shape i ns) array (fill_mild i ns) h w (λ s k. fine_refill (names_in l) (length (spots_of old)) i ns s k)

-- ---- the items of an array

kind_of_spot : (l : Lookups) (o : Option Spot) (kind : Kind) (items : List Datum) → ((s : Spot) → o ≡ Some s → IsFineKind l (kind_within s.shape)) → option_map (λ (s : Spot). s.shape) o ≡ Some (Array kind items) → IsFineKind l kind
kind_of_spot l None kind items h e = absurd (cc)
kind_of_spot l (Some s) kind items h e = let same : s.shape ≡ Array kind items = cc in subst (λ (x : Shape). IsFineKind l (kind_within x)) same (h s refl)

-- their type stands in the tables
pub items_kind : (l : Lookups) (spots : List Spot) (d : Datum) (kind : Kind) (items : List Datum) → AreKinds l spots → shape_at spots d ≡ Some (Array kind items) → IsFineKind l kind
items_kind l spots (datum.Object n) kind items h e = kind_of_spot l (slice_get spots n) kind items (h.at n) e
items_kind l spots (datum.Word x) kind items h e = absurd (cc)
items_kind l spots (datum.Low x) kind items h e = absurd (cc)
items_kind l spots (datum.High x) kind items h e = absurd (cc)
items_kind l spots (datum.Literal x) kind items h e = absurd (cc)
items_kind l spots (datum.Class x) kind items h e = absurd (cc)

fine_of_spot : (l : Lookups) (size : ℕ) (o : Option Spot) (kind : Kind) (items : List Datum) → ((s : Spot) → o ≡ Some s → IsFineShape (names_in l) size s.shape) → option_map (λ (s : Spot). s.shape) o ≡ Some (Array kind items) → IsFineShape (names_in l) size (Array kind items)
fine_of_spot l size None kind items h e = absurd (cc)
fine_of_spot l size (Some s) kind items h e = let same : s.shape ≡ Array kind items = cc in subst (IsFineShape (names_in l) size) same (h s refl)

-- they are fine
pub items_fine : (l : Lookups) (w : World) (d : Datum) (kind : Kind) (items : List Datum) → IsSound l w → shape_at (spots_of w) d ≡ Some (Array kind items) → IsFineShape (names_in l) (length (spots_of w)) (Array kind items)
items_fine l w (datum.Object n) kind items h e = fine_of_spot l (length (spots_of w)) (slice_get (spots_of w) n) kind items (h.fine.arrays.at n) e
items_fine l w (datum.Word x) kind items h e = absurd (cc)
items_fine l w (datum.Low x) kind items h e = absurd (cc)
items_fine l w (datum.High x) kind items h e = absurd (cc)
items_fine l w (datum.Literal x) kind items h e = absurd (cc)
items_fine l w (datum.Class x) kind items h e = absurd (cc)

-- ---- arrays that are made

alike_long : (n : ℕ) (d : Datum) → length (replicate n d) ≡ n
alike_long zero d = refl
alike_long (suc n) d = ap suc (alike_long n d)

read_long : (cells : List Datum) (args : List ℕ) → length (map (cell cells) args) ≡ length args
read_long cells [] = refl
read_long cells (a ∷ rest) = ap suc (read_long cells rest)

-- an array with items that are fine
kept_array : (l : Lookups) (old new : World) (t : Thing) (kind : Kind) (items : List Datum) → IsHeap old new (spots_of old ++ new_spot t ∷ []) → shape_of t ≡ Array kind items → AreFine (names_in l) (length (spots_of old)) items → IsFineKind l kind → length items < 2 ^ 32
    → IsSound l old → IsKeptWorld l old new
kept_array l old new t kind items h s f k short w =
    kept_added l old new t h (subst (IsFineShape (names_in l) (length (spots_of old))) (sym s) f) (subst (λ (x : Shape). IsFineKind l (kind_within x)) (sym s) k) (subst IsShortShape (sym s) short) w

pub kept_zeros : (l : Lookups) (old new : World) (t : Thing) (kind : Kind) (size : ℕ) → IsHeap old new (spots_of old ++ new_spot t ∷ []) → shape_of t ≡ Array kind (replicate size (zero_in (is_wide (type_text l.types kind)))) → IsFineKind l kind → size < 2 ^ 32
    → IsSound l old → IsKeptWorld l old new
kept_zeros l old new t kind size h s k low w =
    let zero = zero_in (is_wide (type_text l.types kind)) in
    let long = alike_long size zero in
    kept_array l old new t kind (replicate size zero) h s (fine_alike (names_in l) (length (spots_of old)) size zero (fine_zero (names_in l) (length (spots_of old)) (is_wide (type_text l.types kind)))) k (omega (arith, long, low)) w

pub kept_read : (l : Lookups) (old new : World) (t : Thing) (kind : Kind) (items : List Datum) (f : Frame) (args : List ℕ) → IsHeap old new (spots_of old ++ new_spot t ∷ []) → shape_of t ≡ Array kind items → items ≡ map (cell f.registers.items) args → IsFineFrame (names_in l) (length (spots_of old)) f
    → IsFineKind l kind → length args < 2 ^ 32 → IsSound l old → IsKeptWorld l old new
kept_read l old new t kind items f args h s e k fine low w =
    let n = names_in l in
    let size = length (spots_of old) in
    let long = read_long f.registers.items args in
    let same : length items ≡ length (map (cell f.registers.items) args) = ap length e in
    kept_array l old new t kind items h s (subst (AreFine n size) (sym e) (fine_read n size f.registers.items args (fine_cells n size f k))) fine (omega (arith, long, same, low)) w

-- the frame that goes on with the reference as its result
pub on_result : (l : Lookups) (size : ℕ) (f h : Frame) (d : Datum) → IsFine (names_in l) size d → f.position < 2 ^ 63 → IsFineFrame (names_in l) size f → IsMoved (record f { result = d }) h (f.position + 1) → IsSafe l size f h effect.Goes
on_result l size f h d v low k m =
    let fine : IsFineFrame (names_in l) size (record f { result = d }) = record { registers = k.registers; result = v; caught = k.caught } in
    record {
      frame = record {
        fine = fine_moved (names_in l) size (record f { result = d }) h (f.position + 1) fine m;
        code = record { at = m.code.at; method = m.code.method; body = m.code.body };
        paced = λ steps p. let e = m.position in omega (arith, e, p);
      };
      effect = tt;
    }

-- ---- items that are read

given_of : (l : Lookups) (size : ℕ) (items : List Datum) → ((r : ℕ) → IsFine (names_in l) size (cell items r)) → (i : ℕ) → IsGivenBack l size (slice_get items i)
given_of l size [] h i = tt
given_of l size (x ∷ xs) h zero = h 0
given_of l size (x ∷ xs) h (suc i) = given_of l size xs (λ r. h (suc r)) i

given_at : (l : Lookups) (size : ℕ) (items : List Datum) (z : ℤ) → ((r : ℕ) → IsFine (names_in l) size (cell items r)) → IsGivenBack l size (item_in items z)
given_at l size items (pos i) h = given_of l size items h i
given_at l size items (negsuc i) h = tt

pub item_given : (l : Lookups) (w : World) (array : Datum) (items : List Datum) (z : ℤ) (o : Option Datum) → IsSound l w → Some items ≡ contents_of (shape_at (spots_of w) array) → o ≡ item_in items z → IsGivenBack l (length (spots_of w)) o
item_given l w array items z o s there e =
    let r = with_contents (shape_at (spots_of w) array) items (sym there) in
    let fine = items_fine l w array r.0 items s r.1 in
    subst (IsGivenBack l (length (spots_of w))) (sym e) (given_at l (length (spots_of w)) items z fine.at)

-- ---- instructions that leave the world

pub safe_here : (l : Lookups) (w : World) (f h : Frame) (e : Effect) → IsReady l w f → IsSafely f h e → IsSafeIn l w w f h e
safe_here l w f h e r s = record { world = kept_same l w r.sound; safe = s l (length (spots_of w)) r.below r.fine }

pub safe_same : (l : Lookups) (w : World) (f : Frame) (e : Effect) → IsReady l w f → IsFineEffect l (length (spots_of w)) e → IsSafeIn l w w f f e
safe_same l w f e r s = record { world = kept_same l w r.sound; safe = stays l (length (spots_of w)) f e r.fine s }
