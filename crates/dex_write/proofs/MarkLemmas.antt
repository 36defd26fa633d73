-- Annotations added one behind another.
use Rattle.std.proofs.Common.{Result, Ok, Err, OnOk, subst, ◌≡◌, ℕ, ◌+◌, ◌<◌, List, [], ◌∷◌, ◌++◌, length, map, take, get_or, refl, sym, ap, ◌∙◌, append_assoc, append-nil, length-append, arith}
use Rattle.std.specs.List.{flat_map}
use Rattle.std.proofs.lemmas.List.Concat.{flat_map-append}
use Rattle.program_model.specs.declared.value.Mark.{Mark}
use Rattle.program_model.specs.declared.pass.Renumber.{Renumber}
use Rattle.dex_pools.specs.Written.{mark_text}
use Rattle.std.specs.declared.alloc.AllocError.{AllocError}
use Rattle.std.proofs.lemmas.List.{map-append}
use Rattle.std.proofs.lemmas.List.Folds.{flat_map-map}
use Rattle.dex_write.specs.Plans.{Plan, field_marks, method_marks, parameter_marks}
use Rattle.dex_write.specs.Sets.{mark_starts, Added, marks_of, ordered_marks}
use Rattle.dex_write.proofs.TakeLemmas.{take_one}

starts_behind : (r : Renumber) (at : ℕ) (ms ns : List Mark) → mark_starts r at (ms ++ ns) ≡ mark_starts r at ms ++ mark_starts r (at + length (flat_map (mark_text r) ms)) ns
starts_behind r at [] ns = ap (λ n. mark_starts r n ns) (omega arith)
starts_behind r at (m ∷ ms) ns =
    let same : at + length (mark_text r m) + length (flat_map (mark_text r) ms) ≡ at + length (mark_text r m ++ flat_map (mark_text r) ms) = omega (arith, length-append (mark_text r m) (flat_map (mark_text r) ms)) in
    ap (λ (l : List ℕ). at ∷ l) (starts_behind r (at + length (mark_text r m)) ms ns ∙ ap (λ n. mark_starts r (at + length (mark_text r m)) ms ++ mark_starts r n ns) same)

pub added_none : (r : Renumber) (bytes starts : List ℕ) → Added r [] bytes starts bytes starts
added_none r bytes starts = record { bytes_are = sym (append-nil bytes); starts_are = sym (append-nil starts) }

pub added_more : (r : Renumber) (ms ns : List Mark) (b0 s0 b1 s1 b2 s2 : List ℕ) → Added r ms b0 s0 b1 s1 → Added r ns b1 s1 b2 s2 → Added r (ms ++ ns) b0 s0 b2 s2
added_more r ms ns b0 s0 b1 s1 b2 s2 h k =
    let long : length b1 ≡ length b0 + length (flat_map (mark_text r) ms) = ap length h.bytes_are ∙ length-append b0 (flat_map (mark_text r) ms) in
    record {
      bytes_are = k.bytes_are ∙ ap (λ (b : List ℕ). b ++ flat_map (mark_text r) ns) h.bytes_are ∙ append_assoc b0 (flat_map (mark_text r) ms) (flat_map (mark_text r) ns) ∙ ap (λ (b : List ℕ). b0 ++ b) (sym (flat_map-append (mark_text r) ms ns));
      starts_are = k.starts_are ∙ ap (λ (s : List ℕ). s ++ mark_starts r (length b1) ns) h.starts_are ∙ append_assoc s0 (mark_starts r (length b0) ms) (mark_starts r (length b1) ns) ∙ ap (λ (s : List ℕ). s0 ++ s) (ap (λ n. mark_starts r (length b0) ms ++ mark_starts r n ns) long ∙ sym (starts_behind r (length b0) ms ns));
    }

-- those of one more of a list
pub added_step : {X : Type 0} (r : Renumber) (f : X → List Mark) (xs : List X) (x : X) (b0 s0 b1 s1 b2 s2 : List ℕ)
    → Added r (flat_map f xs) b0 s0 b1 s1 → Added r (f x) b1 s1 b2 s2 → Added r (flat_map f (xs ++ x ∷ [])) b0 s0 b2 s2
added_step {X} r f xs x b0 s0 b1 s1 b2 s2 h k =
    let e : flat_map f (xs ++ x ∷ []) ≡ flat_map f xs ++ f x = flat_map-append f xs (x ∷ []) ∙ ap (λ l. flat_map f xs ++ l) (append-nil (f x)) in
    rw e (added_more r (flat_map f xs) (f x) b0 s0 b1 s1 b2 s2 h k)

-- the step of a loop: x is the one at i, and ms are those of it
pub added_take : {X : Type 0} (r : Renumber) (f : X → List Mark) (xs : List X) (i : ℕ) (x : X) (ms : List Mark) (b0 s0 b1 s1 b2 s2 : List ℕ)
    → i < length xs → x ≡ get_or xs i x → ms ≡ f x → Added r (flat_map f (take i xs)) b0 s0 b1 s1 → Added r ms b1 s1 b2 s2 → Added r (flat_map f (take (i + 1) xs)) b0 s0 b2 s2
added_take r f xs i x ms b0 s0 b1 s1 b2 s2 lt is e h k =
    subst (λ l. Added r (flat_map f l) b0 s0 b2 s2) (sym (take_one xs i x lt is)) (added_step r f (take i xs) x b0 s0 b1 s1 b2 s2 h (subst (λ l. Added r l b1 s1 b2 s2) e k))

pub added_map : {X Y : Type 0} (r : Renumber) (g : X → Y) (f : Y → List Mark) (xs : List X) (i : ℕ) (x : X) (b0 s0 b1 s1 b2 s2 : List ℕ)
    → i < length xs → x ≡ get_or xs i x → Added r (flat_map f (map g (take i xs))) b0 s0 b1 s1 → Added r (f (g x)) b1 s1 b2 s2 → Added r (flat_map f (map g (take (i + 1) xs))) b0 s0 b2 s2
added_map r g f xs i x b0 s0 b1 s1 b2 s2 lt is h k =
    subst (λ l. Added r (flat_map f l) b0 s0 b2 s2) (sym (ap (map g) (take_one xs i x lt is) ∙ map-append g (take i xs) (x ∷ []))) (added_step r f (map g (take i xs)) (g x) b0 s0 b1 s1 b2 s2 h k)

flat_twice : {X Y Z : Type 0} (f : Y → List Z) (g : X → List Y) (xs : List X) → flat_map f (flat_map g xs) ≡ flat_map (λ x. flat_map f (g x)) xs
flat_twice f g [] = refl
flat_twice f g (x ∷ xs) = flat_map-append f (g x) (flat_map g xs) ∙ ap (λ l. flat_map f (g x) ++ l) (flat_twice f g xs)

marks_split : (r : Renumber) (p : Plan) → marks_of r p ≡ ordered_marks r p.class.marks ++ (flat_map (λ f. ordered_marks r (field_marks p.class f.1)) p.fields ++ (flat_map (λ m. ordered_marks r (method_marks p.class m.place)) p.methods ++ flat_map (λ m. flat_map (ordered_marks r) (parameter_marks p.class m.place)) p.methods))
unfolding marks_of
marks_split r p =
    let c = p.class in
    let fields = map (λ f. field_marks c f.1) p.fields in
    let methods = map (λ m. method_marks c m.place) p.methods in
    let parameters = flat_map (λ m. parameter_marks c m.place) p.methods in
    let o = ordered_marks r in
    let a : flat_map o (fields ++ (methods ++ parameters)) ≡ flat_map o fields ++ flat_map o (methods ++ parameters) = flat_map-append o fields (methods ++ parameters) in
    let b : flat_map o (methods ++ parameters) ≡ flat_map o methods ++ flat_map o parameters = flat_map-append o methods parameters in
    let x : flat_map o fields ≡ flat_map (λ f. o (field_marks c f.1)) p.fields = flat_map-map o (λ f. field_marks c f.1) p.fields in
    let y : flat_map o methods ≡ flat_map (λ m. o (method_marks c m.place)) p.methods = flat_map-map o (λ m. method_marks c m.place) p.methods in
    let z : flat_map o parameters ≡ flat_map (λ m. flat_map o (parameter_marks c m.place)) p.methods = flat_twice o (λ m. parameter_marks c m.place) p.methods in
    λ i. o c.marks ++ (a ∙ (λ j. x j ++ (b ∙ (λ k. y k ++ z k)) j)) i

pub class_added : (r : Renumber) (p : Plan) (res : Result Unit AllocError) (b0 s0 b1 s1 b2 s2 b3 s3 b4 s4 : List ℕ) → Added r (ordered_marks r p.class.marks) b0 s0 b1 s1
    → Added r (flat_map (λ f. ordered_marks r (field_marks p.class f.1)) p.fields) b1 s1 b2 s2
    → Added r (flat_map (λ m. ordered_marks r (method_marks p.class m.place)) p.methods) b2 s2 b3 s3
    → OnOk res (Added r (flat_map (λ m. flat_map (ordered_marks r) (parameter_marks p.class m.place)) p.methods) b3 s3 b4 s4) → OnOk res (Added r (marks_of r p) b0 s0 b4 s4)
class_added r p (Ok u) b0 s0 b1 s1 b2 s2 b3 s3 b4 s4 a b c d =
    subst (λ l. Added r l b0 s0 b4 s4) (sym (marks_split r p)) (added_more r _ _ b0 s0 b1 s1 b4 s4 a (added_more r _ _ b1 s1 b2 s2 b4 s4 b (added_more r _ _ b2 s2 b3 s3 b4 s4 c d)))
class_added r p (Err e) b0 s0 b1 s1 b2 s2 b3 s3 b4 s4 a b c d = tt
