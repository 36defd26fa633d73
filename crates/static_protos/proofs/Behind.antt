-- What stood in the tables stands there behind a method too, and where its new proto stands.
use Rattle.std.proofs.Common.{◌≡◌, ℕ, zero, suc, Bool, true, false, List, [], ◌∷◌, ◌++◌, length, Option, Some, None, refl, sym, ap, ◌∙◌}
use Rattle.std.specs.Prelude.{cond, nat_eq, position, slice_get}
use Rattle.std.specs.Option.{option_map}
use Rattle.std.specs.Cmp.Lexicographic.{pointwise, bytes_decides}
use Rattle.std.proofs.lemmas.List.{append_assoc}
use Rattle.lemmas.proofs.Options.{before_map, some_same}
use Rattle.program_model.specs.declared.pools.Proto.{Proto}
use Rattle.program_model.specs.Distinct.{proto_key}
use Rattle.class_defs.proofs.Positions.{position_step}
use Rattle.static_protos.specs.declared.tables.Wanted.{Wanted}
use Rattle.static_protos.specs.Growing.{AreBehind}
use Rattle.static_protos.specs.Tables.{Tables, is_proto, proto_place, texts_with, protos_with, place_or, proto_of, text_at, proto_at, strings_with, with_new}

-- ---- lists

pub stays : {X : Type 0} (xs ys : List X) (n : ℕ) (x : X) → slice_get xs n ≡ Some x → slice_get (xs ++ ys) n ≡ Some x
stays [] ys n x e = cc
stays (z ∷ xs) ys zero x e = e
stays (z ∷ xs) ys (suc n) x e = stays xs ys n x e

last_is : {X : Type 0} (xs : List X) (x : X) → slice_get (xs ++ x ∷ []) (length xs) ≡ Some x
last_is [] x = refl
last_is (z ∷ xs) x = last_is xs x

nothing_more : {X : Type 0} (xs : List X) → xs ++ [] ≡ xs
nothing_more [] = refl
nothing_more (x ∷ xs) = ap (λ l. x ∷ l) (nothing_more xs)

pub record PlaceOf {X : Type 0} (t : X → Bool) (xs : List X) (i : ℕ) : Type 0 where
  pub item : X
  pub there : slice_get xs i ≡ Some item
  pub passes : t item ≡ true

pub placed : {X : Type 0} (t : X → Bool) (xs : List X) (i : ℕ) → position t xs ≡ Some i → PlaceOf t xs i
placed t [] i e = absurd (cc)
placed t (x ∷ xs) i e = by (t x) refl (λ j f. placed t xs j f) i e
  where
    by : (b : Bool) → t x ≡ b → ((j : ℕ) → position t xs ≡ Some j → PlaceOf t xs j) → (i : ℕ) → position t (x ∷ xs) ≡ Some i → PlaceOf t (x ∷ xs) i
    by true f more zero g = record { item = x; there = refl; passes = f }
    by true f more (suc i) g = absurd (let z : Some 0 ≡ Some (suc i) = sym (position_step t x xs ∙ ap (λ b. cond b (Some 0) (option_map suc (position t xs))) f) ∙ g in let w : 0 ≡ suc i = some_same 0 (suc i) z in cc)
    by false f more i g =
        let b = before_map suc (position t xs) i (sym (position_step t x xs ∙ ap (λ b. cond b (Some 0) (option_map suc (position t xs))) f) ∙ g) in
        next b.0 i b.1.1 (more b.0 b.1.0)
      where
        next : (j i : ℕ) → suc j ≡ i → PlaceOf t xs j → PlaceOf t (x ∷ xs) i
        next j zero s r = absurd (cc)
        next j (suc i) s r = record { item = r.item; there = ap (slice_get xs) (let z : i ≡ j = cc in z) ∙ r.there; passes = r.passes }

-- ---- tables

pub behind_itself : (t : Tables) → AreBehind t t
behind_itself t = record { texts = []; strings = sym (nothing_more t.strings); new = []; protos = sym (nothing_more t.protos) }

pub behind_then : (t u v : Tables) → AreBehind t u → AreBehind u v → AreBehind t v
behind_then t u v a b = record {
  texts = a.texts ++ b.texts;
  strings = b.strings ∙ ap (λ xs. xs ++ b.texts) a.strings ∙ append_assoc t.strings a.texts b.texts;
  new = a.new ++ b.new;
  protos = b.protos ∙ ap (λ xs. xs ++ b.new) a.protos ∙ append_assoc t.protos a.new b.new;
}

pub behind_new : (t : Tables) (w : Wanted) → AreBehind t (with_new t w)
behind_new t w = record {
  texts = (texts (text_at t w)).0;
  strings = (texts (text_at t w)).1;
  new = (protos (proto_at t w)).0;
  protos = (protos (proto_at t w)).1;
}
  where
    texts : (o : Option ℕ) → (more : List (List ℕ)) × (texts_with t.strings w.text o ≡ t.strings ++ more)
    texts None = (w.text ∷ [], refl)
    texts (Some i) = ([], sym (nothing_more t.strings))

    protos : (o : Option ℕ) → (more : List Proto) × (protos_with t.protos (proto_of t w) o ≡ t.protos ++ more)
    protos None = (proto_of t w ∷ [], refl)
    protos (Some i) = ([], sym (nothing_more t.protos))

-- ---- the new proto

pub record IsGiven (protos : List Proto) (w : Wanted) (place : ℕ) : Type 0 where
  pub proto : Proto
  pub there : slice_get protos place ≡ Some proto
  pub result : proto.result ≡ w.result
  pub parameters : proto.parameters ≡ w.parameters

pub proto_given : (t : Tables) (w : Wanted) → IsGiven (with_new t w).protos w (place_or (length t.protos) (proto_at t w))
proto_given t w = by (proto_at t w) refl
  where
    by : (o : Option ℕ) → proto_at t w ≡ o → IsGiven (protos_with t.protos (proto_of t w) o) w (place_or (length t.protos) o)
    by None e = record { proto = proto_of t w; there = last_is t.protos (proto_of t w); result = refl; parameters = refl }
    by (Some i) e =
        let r = placed (is_proto w.result w.parameters) t.protos i e in
        let same : w.result ∷ w.parameters ≡ r.item.result ∷ r.item.parameters = (bytes_decides (w.result ∷ w.parameters) (r.item.result ∷ r.item.parameters)).0 r.passes in
        record { proto = r.item; there = r.there; result = (let z : r.item.result ≡ w.result = cc in z); parameters = (let z : r.item.parameters ≡ w.parameters = cc in z) }

-- it stands there behind further methods too
pub given_stays : (t u : Tables) (w : Wanted) (place : ℕ) → AreBehind t u → IsGiven t.protos w place → IsGiven u.protos w place
given_stays t u w place a g = record { proto = g.proto; there = ap (λ xs. slice_get xs place) a.protos ∙ stays t.protos a.new place g.proto g.there; result = g.result; parameters = g.parameters }
