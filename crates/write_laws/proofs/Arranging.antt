-- What the arrangement says: what is empty has the offset 0, no two items share a place, and the texts alone say where all stand.
use Rattle.std.proofs.Common.{◌≡◌, ◌≤◌, ℕ, zero, suc, List, [], ◌∷◌, length, refl, sym, ap, subst, ◌∙◌, arith}
use Rattle.dex_defs.specs.Arranged.{IsAt, Nothing, Something, Lie, Both, named}
use Rattle.write_laws.specs.Rising.{Rising}

at_none : (bytes : List ℕ) (align from offset : ℕ) (text : List ℕ) (stop : ℕ) → IsAt bytes align from offset text stop → text ≡ [] → offset ≡ 0
at_none bytes align from offset text stop (Nothing a b c) e = a
at_none bytes align from offset text stop (Something a b c d f g) e = absurd (omega (arith, b, ap length e))

pub lie_none : (bytes : List ℕ) (align from : ℕ) (offsets : List ℕ) (texts : List (List ℕ)) (to : ℕ) → Lie bytes align from offsets texts to → Both (λ o t. t ≡ [] → o ≡ 0) offsets texts
lie_none bytes align from [] [] to h = tt
lie_none bytes align from [] (t ∷ ts) to h = absurd h
lie_none bytes align from (o ∷ os) [] to h = absurd h
lie_none bytes align from (o ∷ os) (t ∷ ts) to h = (at_none bytes align from o t h.0 h.1, lie_none bytes align h.0 os ts to h.2)

weaker : (from low : ℕ) (os : List ℕ) → low ≤ from → Rising from os → Rising low os
weaker from low [] le h = tt
weaker from low (o ∷ os) le h = (omega (arith, le, h.0), h.1)

at_rises : (bytes : List ℕ) (align from offset : ℕ) (text : List ℕ) (stop : ℕ) (os : List ℕ) → IsAt bytes align from offset text stop → Rising stop (named os) → Rising from (named (offset ∷ os))
at_rises bytes align from zero text stop os (Nothing a b c) h = weaker stop from (named os) (omega (arith, c)) h
at_rises bytes align from (suc k) text stop os (Nothing a b c) h = absurd (omega (arith, a))
at_rises bytes align from zero text stop os (Something a b c d e f) h = absurd (omega (arith, a))
at_rises bytes align from (suc k) text stop os (Something a b c d e f) h = (c.behind, weaker stop (suc (suc k)) (named os) (omega (arith, b, f)) h)

pub lie_rises : (bytes : List ℕ) (align from : ℕ) (offsets : List ℕ) (texts : List (List ℕ)) (to : ℕ) → Lie bytes align from offsets texts to → Rising from (named offsets)
lie_rises bytes align from [] [] to h = tt
lie_rises bytes align from [] (t ∷ ts) to h = absurd h
lie_rises bytes align from (o ∷ os) [] to h = absurd h
lie_rises bytes align from (o ∷ os) (t ∷ ts) to h = at_rises bytes align from o t h.0 os h.1 (lie_rises bytes align h.0 os ts to h.2)

-- ---- the same texts lie at the same places

record SameStop (a b s t : ℕ) : Type 0 where
  offsets : a ≡ b
  stops : s ≡ t

at_once : (bytes others : List ℕ) (from a b : ℕ) (text : List ℕ) (s t : ℕ) → IsAt bytes 4 from a text s → IsAt others 4 from b text t → SameStop a b s t
at_once bytes others from a b text s t (Nothing x y z) (Nothing u v w) = record { offsets = x ∙ sym u; stops = z ∙ sym w }
at_once bytes others from a b text s t (Nothing x y z) (Something u v w k l m) = absurd (omega (arith, v, ap length y))
at_once bytes others from a b text s t (Something x y z k l m) (Nothing u v w) = absurd (omega (arith, y, ap length v))
at_once bytes others from a b text s t (Something x y z k l m) (Something u v w n o q) =
    let e : a ≡ b = omega (arith, z.behind, z.near, z.aligned, w.behind, w.near, w.aligned) in
    record { offsets = e; stops = omega (arith, e, m, q) }

pub lie_once : (bytes others : List ℕ) (from : ℕ) (offsets places : List ℕ) (texts : List (List ℕ)) (s t : ℕ) → Lie bytes 4 from offsets texts s → Lie others 4 from places texts t → (offsets ≡ places) × (s ≡ t)
lie_once bytes others from [] [] [] s t h k = (refl, h ∙ sym k)
lie_once bytes others from [] [] (x ∷ xs) s t h k = absurd h
lie_once bytes others from [] (b ∷ bs) [] s t h k = absurd k
lie_once bytes others from [] (b ∷ bs) (x ∷ xs) s t h k = absurd h
lie_once bytes others from (a ∷ as_) [] [] s t h k = absurd h
lie_once bytes others from (a ∷ as_) [] (x ∷ xs) s t h k = absurd k
lie_once bytes others from (a ∷ as_) (b ∷ bs) [] s t h k = absurd h
lie_once bytes others from (a ∷ as_) (b ∷ bs) (x ∷ xs) s t h k =
    let one : SameStop a b h.0 k.0 = at_once bytes others from a b x h.0 k.0 h.1 k.1 in
    let more : (as_ ≡ bs) × (s ≡ t) = lie_once bytes others k.0 as_ bs xs s t (subst (λ n. Lie bytes 4 n as_ xs s) one.stops h.2) k.2 in
    (ap (λ (n : ℕ). n ∷ as_) one.offsets ∙ ap (λ (l : List ℕ). b ∷ l) more.0, more.1)
