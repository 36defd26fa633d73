-- A type is known by its descriptor.
use Rattle.std.proofs.Common.{◌≡◌, ℕ, zero, suc, ◌<◌, ◌^◌, false, true≢false, nat_eq, [], ◌∷◌, ◌++◌, length, replicate, drop, Some, refl, sym, ap, ◌∙◌, arith, eqb-true, eq-eqb}
use Rattle.std.specs.Prelude.{slice_get, slice_index_or}
use Rattle.class_defs.proofs.Positions.{same_test}
use Rattle.dalvik_defs.specs.Names.{Text, text_eq, is_array, object_type}
use Rattle.dalvik_lookups.specs.declared.types.Kind.{Kind}
use Rattle.dalvik_lookups.specs.declared.types.Types.{Types}
use Rattle.dalvik_lookups.specs.Views.{names_of, name_at, type_text, known_names, Stays, AreTypes, IsKind, Added, AddedType}
use Rattle.dalvik_lookups.proofs.Interned.{text_same, text_sound, got_short, entry_is, same_number, stays_in, stays_below}

-- how many brackets there are, and what stands behind them
brackets_same : (m n : ℕ) (s t : Text) → is_array s ≡ false → is_array t ≡ false → replicate m 91 ++ s ≡ replicate n 91 ++ t → (m ≡ n) × (s ≡ t)
brackets_same zero zero s t h k e = (refl, e)
brackets_same zero (suc n) s t h k e = absurd (true≢false (sym (ap is_array e) ∙ h))
brackets_same (suc m) zero s t h k e = absurd (true≢false (ap is_array e ∙ k))
brackets_same (suc m) (suc n) s t h k e =
    let tail : replicate m 91 ++ s ≡ replicate n 91 ++ t = cc in
    let r = brackets_same m n s t h k tail in
    (ap suc r.0, r.1)

-- types of one descriptor are equal
pub same_kind : (t : Types) → AreTypes t → (a b : Kind) → IsKind t a → IsKind t b → type_text t a ≡ type_text t b → a ≡ b
same_kind t w a b h k e =
    let r = brackets_same a.depth b.depth (name_at t a.base) (name_at t b.base) h.bare k.bare e in
    let base : a.base ≡ b.base = same_number (names_of t) w.kept.once a.base b.base h.base k.base r.1 in
    ap (λ (d : ℕ). record { depth = d; base = a.base }) r.0 ∙ ap (λ (n : ℕ). record { depth = b.depth; base = n }) base

-- the descriptor of a known number
pub known_at : (t : Types) → AreTypes t → (n : ℕ) (x : Text) → slice_get known_names n ≡ Some x → name_at t n ≡ x
known_at t w n x e = entry_is (names_of t) n x (w.known.stays n x e)

pub known_kind : (t : Types) → AreTypes t → (n : ℕ) (x : Text) → slice_get known_names n ≡ Some x → is_array x ≡ false → IsKind t (record { depth = 0; base = n })
known_kind t w n x e f = record { base = got_short (names_of t) n x (w.known.stays n x e); bare = ap is_array (known_at t w n x e) ∙ f }

pub object_is : (t : Types) → AreTypes t → (k : Kind) → IsKind t k → k.depth ≡ 0 → nat_eq k.base 0 ≡ text_eq (type_text t k) object_type
object_is t w k h e =
    let text : type_text t k ≡ name_at t k.base = ap (λ n. replicate n 91 ++ name_at t k.base) e in
    same_test (nat_eq k.base 0) (text_eq (type_text t k) object_type)
    (λ f. ap (λ u. text_eq u object_type) (text ∙ ap (name_at t) (eqb-true k.base 0 f) ∙ known_at t w 0 object_type refl) ∙ text_same object_type)
    (λ f. eq-eqb k.base 0 (same_number (names_of t) w.kept.once k.base 0 h.base (known_kind t w 0 object_type refl refl).base (sym text ∙ text_sound (type_text t k) object_type f ∙ sym (known_at t w 0 object_type refl))))

-- adding a descriptor with brackets
pub added_type : (old new : Types) (units rest : Text) (d b : ℕ) → Added old new rest b → units ≡ replicate d 91 ++ rest → is_array rest ≡ false → d < 2 ^ 63 → AddedType old new units (record { depth = d; base = b })
added_type old new units rest d b a e f g = record {
  kept = a.kept;
  stays = a.stays;
  kind = record { base = got_short (names_of new) b rest a.there; bare = ap is_array (entry_is (names_of new) b rest a.there) ∙ f };
  text = ap (λ u. replicate d 91 ++ u) (entry_is (names_of new) b rest a.there) ∙ sym e;
  deep = g;
}

-- a type keeps its descriptor
pub type_stays : (old new : Types) → Stays (names_of old) (names_of new) → (k : Kind) → IsKind old k → IsKind new k × (type_text new k ≡ type_text old k)
type_stays old new s k h = (
  record { base = stays_below (names_of old) (names_of new) s k.base h.base; bare = ap is_array (stays_in (names_of old) (names_of new) s k.base h.base) ∙ h.bare },
  ap (λ u. replicate k.depth 91 ++ u) (stays_in (names_of old) (names_of new) s k.base h.base),
)

-- what is no bracket begins no brackets
pub no_bracket : (t : Text) (i d : ℕ) → i < length t → (nat_eq (slice_index_or t i d) 91 ≡ false) → is_array (drop i t) ≡ false
no_bracket [] i d h e = absurd (omega (arith, h))
no_bracket (u ∷ us) zero d h e = e
no_bracket (u ∷ us) (suc i) d h e = no_bracket us i d (omega (arith, h)) e
