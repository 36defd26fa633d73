-- Worlds whose heap changes stay as a run keeps them.
use Rattle.std.proofs.Common.{◌≡◌, ℕ, zero, suc, ◌≤◌, ◌⊎◌, inl, inr, List, [], ◌∷◌, ◌++◌, length, map, arith, ap, refl, sym, subst, ◌∙◌, length-append}
use Rattle.std.specs.Prelude.{Some, slice_get}
use Rattle.std.proofs.lemmas.List.{length-set}
use Rattle.insn_set.specs.declared.ops.Item.{Item}
use Rattle.dalvik_lookups.proofs.Interned.{got_last}
use Rattle.dalvik_lookups.specs.declared.lookups.Lookups.{Lookups}
use Rattle.dalvik_defs.specs.Show.{place_in}
use Rattle.dalvik_state.specs.declared.datum.Datum.{Datum}
use Rattle.dalvik_state.specs.declared.datum.Datum.TheVariants as datum
use Rattle.dalvik_state.specs.declared.world.Thing.{Thing}
use Rattle.dalvik_state.specs.declared.world.World.{World}
use Rattle.dalvik_state.specs.Frames.{fill_in}
use Rattle.dalvik_state.specs.States.{kind_within, AreKinds, ArePlaced, IsFineKind, IsSound}
use Rattle.dalvik_state.specs.Views.{exposed_of, names_in, IsFine, IsFineShape, IsFineWorld}
use Rattle.dalvik_state.specs.Worlds.{Shape, Plain, Array, Spot, fill_shape, new_spot, put_shape, reshape, reshape_at, shape_of, spots_of, IsHeap, IsShort, IsShortShape}
use Rattle.dalvik_state.proofs.Fine.{as_many, fine_added, fine_changed, fine_put, fine_refill}
use Rattle.dalvik_state.proofs.Places.{place_past}

-- a world with another heap, by what is new of it
sound_heap : (l : Lookups) (old new : World) (spots : List Spot) → IsHeap old new spots → length (spots_of old) ≤ length spots → IsFineWorld (names_in l) new → AreKinds l spots → ArePlaced spots old.exposed.items → IsShort spots → IsSound l old → IsSound l new
sound_heap l old new spots h more fine kinds placed short w =
    let size : length (spots_of new) ≡ length spots = ap length h.heap in
    record {
      fine = fine;
      kinds = subst (AreKinds l) (sym h.heap) kinds;
      placed = subst (λ v. ArePlaced (spots_of new) v.items) (sym h.exposed) (subst (λ (ss : List Spot). ArePlaced ss old.exposed.items) (sym h.heap) placed);
      written = record { at = λ i e g. let low = w.written.at i e (ap (λ m. slice_get m.entries i) (sym h.fields) ∙ g) in omega (arith, low, more, size) };
      short = subst IsShort (sym h.heap) short;
      statics = ap (λ v. length v.items) h.statics ∙ w.statics;
    }

-- ---- a thing is added

added_at : (spots : List Spot) (s : Spot) (P : Spot → Type 0) → ((i : ℕ) (x : Spot) → slice_get spots i ≡ Some x → P x) → P s → (i : ℕ) (x : Spot) → slice_get (spots ++ s ∷ []) i ≡ Some x → P x
added_at spots s P h k i x e = elim (got_last spots s x i e) [ inl old ↦ h i x old | inr new ↦ subst P (sym new.1) k ]

pub sound_added : (l : Lookups) (old new : World) (t : Thing) → IsHeap old new (spots_of old ++ new_spot t ∷ []) → IsFineShape (names_in l) (length (spots_of old)) (shape_of t) → IsFineKind l (kind_within (shape_of t)) → IsShortShape (shape_of t) → IsSound l old → IsSound l new
sound_added l old new t h fine kind short w =
    let long = length-append (spots_of old) (new_spot t ∷ []) in
    sound_heap l old new (spots_of old ++ new_spot t ∷ []) h (omega (arith, long)) (fine_added (names_in l) old new t h fine w.fine)
    (record { at = added_at (spots_of old) (new_spot t) (λ (x : Spot). IsFineKind l (kind_within x.shape)) w.kinds.at kind })
    (record { below = λ i e g. let low = w.placed.below i e g in omega (arith, low, long); at = placed })
    (record { at = added_at (spots_of old) (new_spot t) (λ (x : Spot). IsShortShape x.shape) w.short.at short })
    w
  where
    placed : (i : ℕ) (x : Spot) → slice_get (spots_of old ++ new_spot t ∷ []) i ≡ Some x → x.place ≡ place_in (map exposed_of old.exposed.items) i
    placed i x e = elim (got_last (spots_of old) (new_spot t) x i e) [
      | inl before ↦ w.placed.at i x before
      | inr last ↦ (let past : length (spots_of old) ≤ i = (let same = last.0 in omega (arith, same)) in ap (λ (y : Spot). y.place) last.1 ∙ sym (place_past (length (spots_of old)) old.exposed.items w.placed.below i past))
    ]

-- ---- an array is changed

-- what stands at a place after a thing has changed
pub record WasThere (f : Shape → Shape) (spots : List Spot) (i : ℕ) (x : Spot) : Type 0 where
  pub old : Spot
  pub was : slice_get spots i ≡ Some old
  pub place : x.place ≡ old.place
  pub shape : (x.shape ≡ old.shape) ⊎ (x.shape ≡ f old.shape)

was_there : (f : Shape → Shape) (spots : List Spot) (n i : ℕ) (x : Spot) → slice_get (reshape f spots n) i ≡ Some x → WasThere f spots i x
was_there f [] n i x e = absurd (cc)
was_there f (s ∷ ss) zero zero x e = (let same : record s { shape = f s.shape } ≡ x = cc in record { old = s; was = refl; place = ap (λ (y : Spot). y.place) (sym same); shape = inr (ap (λ (y : Spot). y.shape) (sym same)) })
was_there f (s ∷ ss) zero (suc i) x e = record { old = x; was = e; place = refl; shape = inl refl }
was_there f (s ∷ ss) (suc n) zero x e = record { old = x; was = e; place = refl; shape = inl refl }
was_there f (s ∷ ss) (suc n) (suc i) x e = let r = was_there f ss n i x e in record { old = r.old; was = r.was; place = r.place; shape = r.shape }

was_at : (f : Shape → Shape) (spots : List Spot) (d : Datum) (i : ℕ) (x : Spot) → slice_get (reshape_at f spots d) i ≡ Some x → WasThere f spots i x
was_at f spots (datum.Object n) i x e = was_there f spots n i x e
was_at f spots (datum.Word n) i x e = record { old = x; was = e; place = refl; shape = inl refl }
was_at f spots (datum.Low n) i x e = record { old = x; was = e; place = refl; shape = inl refl }
was_at f spots (datum.High n) i x e = record { old = x; was = e; place = refl; shape = inl refl }
was_at f spots (datum.Literal n) i x e = record { old = x; was = e; place = refl; shape = inl refl }
was_at f spots (datum.Class n) i x e = record { old = x; was = e; place = refl; shape = inl refl }

changed_so : (f : Shape → Shape) (P : Shape → Type 0) (a b : Shape) → (a ≡ b) ⊎ (a ≡ f b) → ((s : Shape) → P s → P (f s)) → P b → P a
changed_so f P a b (inl same) keeps h = subst P (sym same) h
changed_so f P a b (inr new) keeps h = subst P (sym new) (keeps b h)

pub sound_changed : (l : Lookups) (old new : World) (f : Shape → Shape) (d : Datum) → ((s : Shape) → IsFineShape (names_in l) (length (spots_of old)) s → IsFineShape (names_in l) (length (spots_of old)) (f s)) → ((s : Shape) → kind_within (f s) ≡ kind_within s) → ((s : Shape) → IsShortShape s → IsShortShape (f s))
    → IsHeap old new (reshape_at f (spots_of old) d) → IsSound l old → IsSound l new
sound_changed l old new f d fine kinds short h w =
    let long = as_many (names_in l) f (spots_of old) d in
    sound_heap l old new (reshape_at f (spots_of old) d) h (omega (arith, long)) (fine_changed (names_in l) old new f d fine h w.fine)
    (record { at = λ i x e. let r = was_at f (spots_of old) d i x e in changed_so f (λ (s : Shape). IsFineKind l (kind_within s)) x.shape r.old.shape r.shape (λ s k. subst (IsFineKind l) (sym (kinds s)) k) (w.kinds.at i r.old r.was) })
    (record {
      below = λ i e g. let low = w.placed.below i e g in omega (arith, low, long);
      at = λ i x e. let r = was_at f (spots_of old) d i x e in r.place ∙ w.placed.at i r.old r.was;
    })
    (record { at = λ i x e. let r = was_at f (spots_of old) d i x e in changed_so f IsShortShape x.shape r.old.shape r.shape short (w.short.at i r.old r.was) })
    w

put_kind : (place : ℕ) (d : Datum) (s : Shape) → kind_within (put_shape place d s) ≡ kind_within s
put_kind place d (Plain kind) = refl
put_kind place d (Array kind items) = refl

put_short : (place : ℕ) (d : Datum) (s : Shape) → IsShortShape s → IsShortShape (put_shape place d s)
put_short place d (Plain kind) h = tt
put_short place d (Array kind items) h = (let same = length-set items place d in omega (arith, h, same))

pub sound_put : (l : Lookups) (old new : World) (array : Datum) (place : ℕ) (d : Datum) → IsFine (names_in l) (length (spots_of old)) d → IsHeap old new (reshape_at (put_shape place d) (spots_of old) array) → IsSound l old → IsSound l new
sound_put l old new array place d fine h w = sound_changed l old new (put_shape place d) array (λ s k. fine_put (names_in l) (length (spots_of old)) place d s fine k) (put_kind place d) (put_short place d) h w

filled_long : (i : Item) (xs : List ℕ) (ds : List Datum) → length (fill_in i xs ds) ≡ length ds
filled_long i [] ds = refl
filled_long i (x ∷ xs) [] = refl
filled_long i (x ∷ xs) (d ∷ ds) = ap suc (filled_long i xs ds)

fill_kind : (i : Item) (xs : List ℕ) (s : Shape) → kind_within (fill_shape i xs s) ≡ kind_within s
fill_kind i xs (Plain kind) = refl
fill_kind i xs (Array kind items) = refl

fill_short : (i : Item) (xs : List ℕ) (s : Shape) → IsShortShape s → IsShortShape (fill_shape i xs s)
fill_short i xs (Plain kind) h = tt
fill_short i xs (Array kind items) h = (let same = filled_long i xs items in omega (arith, h, same))

pub sound_fill : (l : Lookups) (old new : World) (array : Datum) (i : Item) (xs : List ℕ) → IsHeap old new (reshape_at (fill_shape i xs) (spots_of old) array) → IsSound l old → IsSound l new
sound_fill l old new array i xs h w = sound_changed l old new (fill_shape i xs) array (λ s k. fine_refill (names_in l) (length (spots_of old)) i xs s k) (fill_kind i xs) (fill_short i xs) h w
