-- Frames and worlds whose references are there stay so.
use Rattle.std.proofs.Common.{◌≡◌, ℕ, zero, suc, ◌+◌, ◌<◌, ◌≤◌, inl, inr, Bool, true, false, List, [], ◌∷◌, ◌++◌, length, map, arith, ap, refl, sym, subst, ◌∙◌, length-append}
use Rattle.std.specs.Prelude.{Option, Some, None, replicate, slice_get, slice_set}
use Rattle.insn_set.specs.declared.ops.Item.{Item}
use Rattle.insn_set.specs.declared.ops.Item.TheVariants as item
use Rattle.insn_set.specs.declared.ops.Slot.{Slot}
use Rattle.insn_set.specs.declared.ops.Slot.TheVariants as slot
use Rattle.dalvik_lookups.specs.declared.types.Kind.{Kind}
use Rattle.dalvik_lookups.proofs.Interned.{got_last}
use Rattle.dalvik_state.specs.declared.datum.Datum.{Datum}
use Rattle.dalvik_state.specs.declared.datum.Datum.TheVariants as datum
use Rattle.dalvik_state.specs.declared.frame.Frame.{Frame}
use Rattle.dalvik_state.specs.declared.world.Thing.{Thing}
use Rattle.dalvik_state.specs.declared.world.World.{World}
use Rattle.dalvik_state.specs.Frames.{cell, fill_in, filled_in, number_in, stored_in, with_item, with_slot, with_wide, zero_in, IsMoved, IsWritten}
use Rattle.dalvik_state.specs.Views.{AreFine, AreFineLocks, AreFineSpots, IsFine, IsFineFrame, IsFineShape, IsFineWorld, Names}
use Rattle.dalvik_state.specs.Worlds.{Shape, Plain, Array, Spot, fill_shape, new_spot, put_shape, reshape, reshape_at, shape_of, spots_of, IsHeap}

module _ (n : Names) where
  -- ---- values

  pub fine_more : (size more : ℕ) (d : Datum) → size ≤ more → IsFine n size d → IsFine n more d
  fine_more size more (datum.Object x) h f = omega arith
  fine_more size more (datum.Word x) h f = f
  fine_more size more (datum.Low x) h f = f
  fine_more size more (datum.High x) h f = f
  fine_more size more (datum.Literal x) h f = f
  fine_more size more (datum.Class x) h f = f

  pub fine_zero : (size : ℕ) (w : Bool) → IsFine n size (zero_in w)
  fine_zero size true = tt
  fine_zero size false = tt

  pub fine_filled : (size : ℕ) (i : Item) (x : ℕ) → IsFine n size (filled_in i x)
  fine_filled size item.Wide x = tt
  fine_filled size item.Plain x = tt
  fine_filled size item.Object x = tt
  fine_filled size item.Boolean x = tt
  fine_filled size item.Byte x = tt
  fine_filled size item.Char x = tt
  fine_filled size item.Short x = tt

  pub fine_stored : (size : ℕ) (i : Item) (d : Datum) → IsFine n size d → IsFine n size (stored_in i d)
  fine_stored size item.Wide d f = f
  fine_stored size item.Plain d f = f
  fine_stored size item.Object d f = f
  fine_stored size item.Boolean d f = tt
  fine_stored size item.Byte d f = tt
  fine_stored size item.Char d f = tt
  fine_stored size item.Short d f = tt

  -- ---- lists of values

  set_at : (size : ℕ) (ds : List Datum) (i : ℕ) (d : Datum) → ((r : ℕ) → IsFine n size (cell ds r)) → IsFine n size d → (r : ℕ) → IsFine n size (cell (slice_set ds i d) r)
  set_at size [] i d h f r = tt
  set_at size (x ∷ xs) zero d h f zero = f
  set_at size (x ∷ xs) zero d h f (suc r) = h (suc r)
  set_at size (x ∷ xs) (suc i) d h f zero = h zero
  set_at size (x ∷ xs) (suc i) d h f (suc r) = set_at size xs i d (λ q. h (suc q)) f r

  pub fine_set : (size : ℕ) (ds : List Datum) (i : ℕ) (d : Datum) → AreFine n size ds → IsFine n size d → AreFine n size (slice_set ds i d)
  fine_set size ds i d h f = record { at = set_at size ds i d h.at f }

  fill_at : (size : ℕ) (i : Item) (xs : List ℕ) (ds : List Datum) → ((r : ℕ) → IsFine n size (cell ds r)) → (r : ℕ) → IsFine n size (cell (fill_in i xs ds) r)
  fill_at size i [] ds h r = h r
  fill_at size i (x ∷ xs) [] h r = tt
  fill_at size i (x ∷ xs) (d ∷ ds) h zero = fine_filled size i x
  fill_at size i (x ∷ xs) (d ∷ ds) h (suc r) = fill_at size i xs ds (λ q. h (suc q)) r

  pub fine_fill : (size : ℕ) (i : Item) (xs : List ℕ) (ds : List Datum) → AreFine n size ds → AreFine n size (fill_in i xs ds)
  fine_fill size i xs ds h = record { at = fill_at size i xs ds h.at }

  alike_at : (size count : ℕ) (d : Datum) → IsFine n size d → (r : ℕ) → IsFine n size (cell (replicate count d) r)
  alike_at size zero d f r = tt
  alike_at size (suc count) d f zero = f
  alike_at size (suc count) d f (suc r) = alike_at size count d f r

  pub fine_alike : (size count : ℕ) (d : Datum) → IsFine n size d → AreFine n size (replicate count d)
  fine_alike size count d f = record { at = alike_at size count d f }

  read_at : (size : ℕ) (cells : List Datum) (args : List ℕ) → ((r : ℕ) → IsFine n size (cell cells r)) → (r : ℕ) → IsFine n size (cell (map (cell cells) args) r)
  read_at size cells [] h r = tt
  read_at size cells (a ∷ rest) h zero = h a
  read_at size cells (a ∷ rest) h (suc r) = read_at size cells rest h r

  pub fine_read : (size : ℕ) (cells : List Datum) (args : List ℕ) → AreFine n size cells → AreFine n size (map (cell cells) args)
  fine_read size cells args h = record { at = read_at size cells args h.at }

  pub fine_all : (size more : ℕ) (ds : List Datum) → size ≤ more → AreFine n size ds → AreFine n more ds
  fine_all size more ds h f = record { at = λ r. fine_more size more (cell ds r) h (f.at r) }

  -- ---- registers

  pub fine_wide : (size : ℕ) (cells : List Datum) (r x : ℕ) → AreFine n size cells → AreFine n size (with_wide cells r x)
  fine_wide size cells r x h = fine_set size (slice_set cells r (datum.Low x)) (r + 1) (datum.High x) (fine_set size cells r (datum.Low x) h tt) tt

  pub fine_slot : (size : ℕ) (s : Slot) (cells : List Datum) (r : ℕ) (d : Datum) → AreFine n size cells → IsFine n size d → AreFine n size (with_slot s cells r d)
  fine_slot size slot.Wide cells r d h f = fine_wide size cells r (number_in d) h
  fine_slot size slot.Word cells r d h f = fine_set size cells r d h f
  fine_slot size slot.Object cells r d h f = fine_set size cells r d h f

  pub fine_item : (size : ℕ) (i : Item) (cells : List Datum) (r : ℕ) (d : Datum) → AreFine n size cells → IsFine n size d → AreFine n size (with_item i cells r d)
  fine_item size item.Wide cells r d h f = fine_wide size cells r (number_in d) h
  fine_item size item.Plain cells r d h f = fine_set size cells r d h f
  fine_item size item.Object cells r d h f = fine_set size cells r d h f
  fine_item size item.Boolean cells r d h f = fine_set size cells r d h f
  fine_item size item.Byte cells r d h f = fine_set size cells r d h f
  fine_item size item.Char cells r d h f = fine_set size cells r d h f
  fine_item size item.Short cells r d h f = fine_set size cells r d h f

  -- ---- frames

  pub fine_cells : (size : ℕ) (f : Frame) → IsFineFrame n size f → AreFine n size f.registers.items
  fine_cells size f h = record { at = h.registers }

  pub fine_written : (size : ℕ) (f g : Frame) (cells : List Datum) → IsFineFrame n size f → IsWritten f g cells → AreFine n size cells → IsFineFrame n size g
  fine_written size f g cells h w c = record {
    registers = λ r. subst (λ (ds : List Datum). IsFine n size (cell ds r)) (sym w.registers) (c.at r);
    result = subst (IsFine n size) (sym w.result) h.result;
    caught = subst (IsFine n size) (sym w.caught) h.caught;
  }

  pub fine_moved : (size : ℕ) (f g : Frame) (at : ℕ) → IsFineFrame n size f → IsMoved f g at → IsFineFrame n size g
  fine_moved size f g at h m = record {
    registers = λ r. subst (λ (ds : List Datum). IsFine n size (cell ds r)) (sym m.registers) (h.registers r);
    result = subst (IsFine n size) (sym m.result) h.result;
    caught = subst (IsFine n size) (sym m.caught) h.caught;
  }

  pub fine_frame : (size more : ℕ) (f : Frame) → size ≤ more → IsFineFrame n size f → IsFineFrame n more f
  fine_frame size more f h k = record {
    registers = λ r. fine_more size more (cell f.registers.items r) h (k.registers r);
    result = fine_more size more f.result h k.result;
    caught = fine_more size more f.caught h k.caught;
  }

  -- ---- worlds

  pub shape_more : (size more : ℕ) (s : Shape) → size ≤ more → IsFineShape n size s → IsFineShape n more s
  shape_more size more (Plain kind) h f = tt
  shape_more size more (Array kind items) h f = fine_all size more items h f

  added_at : (size more : ℕ) (spots : List Spot) (s : Spot) → size ≤ more → AreFineSpots n size spots → IsFineShape n size s.shape → (i : ℕ) (x : Spot) → slice_get (spots ++ s ∷ []) i ≡ Some x → IsFineShape n more x.shape
  added_at size more spots s h f g i x e = elim (got_last spots s x i e) [
    | inl old ↦ shape_more size more x.shape h (f.at i x old)
    | inr new ↦ shape_more size more x.shape h (subst (λ (y : Spot). IsFineShape n size y.shape) (sym new.1) g)
  ]

  pub shape_changed : (size : ℕ) (f : Shape → Shape) (spots : List Spot) (i : ℕ) → ((s : Shape) → IsFineShape n size s → IsFineShape n size (f s)) → ((j : ℕ) (x : Spot) → slice_get spots j ≡ Some x → IsFineShape n size x.shape)
      → (j : ℕ) (x : Spot) → slice_get (reshape f spots i) j ≡ Some x → IsFineShape n size x.shape
  shape_changed size f [] i keeps h j x e = absurd (cc)
  shape_changed size f (s ∷ ss) zero keeps h zero x e = let same : record s { shape = f s.shape } ≡ x = cc in subst (λ (y : Spot). IsFineShape n size y.shape) same (keeps s.shape (h zero s refl))
  shape_changed size f (s ∷ ss) zero keeps h (suc j) x e = h (suc j) x e
  shape_changed size f (s ∷ ss) (suc i) keeps h zero x e = h zero x e
  shape_changed size f (s ∷ ss) (suc i) keeps h (suc j) x e = shape_changed size f ss i keeps (λ k y g. h (suc k) y g) j x e

  as_long : (f : Shape → Shape) (spots : List Spot) (i : ℕ) → length (reshape f spots i) ≡ length spots
  as_long f [] i = refl
  as_long f (s ∷ ss) zero = refl
  as_long f (s ∷ ss) (suc i) = ap suc (as_long f ss i)

  changed : (size : ℕ) (f : Shape → Shape) (spots : List Spot) (d : Datum) → ((s : Shape) → IsFineShape n size s → IsFineShape n size (f s)) → AreFineSpots n size spots → AreFineSpots n size (reshape_at f spots d)
  changed size f spots (datum.Object i) keeps h = record { at = shape_changed size f spots i keeps h.at }
  changed size f spots (datum.Word x) keeps h = h
  changed size f spots (datum.Low x) keeps h = h
  changed size f spots (datum.High x) keeps h = h
  changed size f spots (datum.Literal x) keeps h = h
  changed size f spots (datum.Class x) keeps h = h

  pub as_many : (f : Shape → Shape) (spots : List Spot) (d : Datum) → length (reshape_at f spots d) ≡ length spots
  as_many f spots (datum.Object i) = as_long f spots i
  as_many f spots (datum.Word x) = refl
  as_many f spots (datum.Low x) = refl
  as_many f spots (datum.High x) = refl
  as_many f spots (datum.Literal x) = refl
  as_many f spots (datum.Class x) = refl

  -- a world whose heap is another one
  fine_heap : (old new : World) (spots : List Spot) → IsHeap old new spots → length (spots_of old) ≤ length spots → AreFineSpots n (length spots) spots → IsFineWorld n old → IsFineWorld n new
  fine_heap old new spots h le a f =
      let size : length (spots_of new) ≡ length spots = ap length h.heap in
      let more : length (spots_of old) ≤ length (spots_of new) = omega (arith, size, le) in
      record {
        arrays = subst (λ (ss : List Spot). AreFineSpots n (length ss) ss) (sym h.heap) a;
        fields = λ i e g. fine_more (length (spots_of old)) (length (spots_of new)) e.1 more (f.fields i e (ap (λ m. slice_get m.entries i) (sym h.fields) ∙ g));
        statics = λ i d g. fine_more (length (spots_of old)) (length (spots_of new)) d more (f.statics i d (ap (λ v. slice_get v.items i) (sym h.statics) ∙ g));
        locks = record { at = λ i e g. fine_more (length (spots_of old)) (length (spots_of new)) e.0 more (f.locks.at i e (ap (λ m. slice_get m.entries i) (sym h.locks) ∙ g)) };
      }

  pub fine_added : (old new : World) (t : Thing) → IsHeap old new (spots_of old ++ new_spot t ∷ []) → IsFineShape n (length (spots_of old)) (shape_of t) → IsFineWorld n old → IsFineWorld n new
  fine_added old new t h s f =
      let long = length-append (spots_of old) (new_spot t ∷ []) in
      let le : length (spots_of old) ≤ length (spots_of old ++ new_spot t ∷ []) = omega (arith, long) in
      fine_heap old new (spots_of old ++ new_spot t ∷ []) h le (record { at = added_at (length (spots_of old)) (length (spots_of old ++ new_spot t ∷ [])) (spots_of old) (new_spot t) le f.arrays s }) f

  pub fine_changed : (old new : World) (f : Shape → Shape) (d : Datum) → ((s : Shape) → IsFineShape n (length (spots_of old)) s → IsFineShape n (length (spots_of old)) (f s)) → IsHeap old new (reshape_at f (spots_of old) d) → IsFineWorld n old → IsFineWorld n new
  fine_changed old new f d keeps h w =
      let long = as_many f (spots_of old) d in
      let le : length (spots_of old) ≤ length (reshape_at f (spots_of old) d) = omega (arith, long) in
      fine_heap old new (reshape_at f (spots_of old) d) h le (subst (λ (k : ℕ). AreFineSpots n k (reshape_at f (spots_of old) d)) (sym long) (changed (length (spots_of old)) f (spots_of old) d keeps w.arrays)) w

  pub fine_put : (size place : ℕ) (d : Datum) (s : Shape) → IsFine n size d → IsFineShape n size s → IsFineShape n size (put_shape place d s)
  fine_put size place d (Plain kind) f h = tt
  fine_put size place d (Array kind items) f h = fine_set size items place d h f

  pub fine_refill : (size : ℕ) (i : Item) (xs : List ℕ) (s : Shape) → IsFineShape n size s → IsFineShape n size (fill_shape i xs s)
  fine_refill size i xs (Plain kind) h = tt
  fine_refill size i xs (Array kind items) h = fine_fill size i xs items h
