-- How many annotations the sets of a class have, and words one behind another.
use Rattle.std.specs.declared.alloc.AllocError.{AllocError}
use Rattle.std.proofs.Common.{true, false, Result, Ok, Err, OnOk, ◌+◌, ◌<◌, take, get_or, append-nil, ◌≡◌, ℕ, List, [], ◌∷◌, ◌++◌, length, map, refl, sym, ap, ◌∙◌, append_assoc}
use Rattle.std.specs.List.{flat_map}
use Rattle.std.specs.Int.{w32, to_le_bytes}
use Rattle.std.proofs.lemmas.List.{map-append}
use Rattle.std.proofs.lemmas.List.Concat.{flat_map-append}
use Rattle.dex_write.specs.Numbers.{words}
use Rattle.dex_write.specs.Plans.{Plan, Numbered, field_marks, method_marks, parameter_marks}
use Rattle.dex_write.specs.Sets.{set_counts, is_bare, filled_words, directory_words}
use Rattle.dex_write.proofs.TakeLemmas.{take_one}

map_flat : {X A B : Type 0} (g : A → B) (f : X → List A) (xs : List X) → map g (flat_map f xs) ≡ flat_map (λ x. map g (f x)) xs
map_flat g f [] = refl
map_flat g f (x ∷ xs) = map-append g (f x) (flat_map f xs) ∙ ap (λ l. map g (f x) ++ l) (map_flat g f xs)

map_twice : {X A B : Type 0} (g : A → B) (f : X → A) (xs : List X) → map g (map f xs) ≡ map (λ x. g (f x)) xs
map_twice g f [] = refl
map_twice {X} {A} {B} g f (x ∷ xs) = ap (λ (l : List B). g (f x) ∷ l) (map_twice g f xs)

pub counts_of_sets : (p : Plan) → set_counts p ≡ length p.class.marks ∷ (map (λ f. length (field_marks p.class f.1)) p.fields ++ (map (λ m. length (method_marks p.class m.place)) p.methods ++ flat_map (λ m. map length (parameter_marks p.class m.place)) p.methods))
unfolding set_counts
counts_of_sets p =
    let c = p.class in
    let fields = map (λ f. field_marks c f.1) p.fields in
    let methods = map (λ m. method_marks c m.place) p.methods in
    let parameters = flat_map (λ m. parameter_marks c m.place) p.methods in
    let a : map length (fields ++ (methods ++ parameters)) ≡ map length fields ++ map length (methods ++ parameters) = map-append length fields (methods ++ parameters) in
    let b : map length (methods ++ parameters) ≡ map length methods ++ map length parameters = map-append length methods parameters in
    let x : map length fields ≡ map (λ f. length (field_marks c f.1)) p.fields = map_twice length (λ f. field_marks c f.1) p.fields in
    let y : map length methods ≡ map (λ m. length (method_marks c m.place)) p.methods = map_twice length (λ m. method_marks c m.place) p.methods in
    let z : map length parameters ≡ flat_map (λ m. map length (parameter_marks c m.place)) p.methods = map_flat length (λ m. parameter_marks c m.place) p.methods in
    λ i. length c.marks ∷ (a ∙ (λ j. x j ++ (b ∙ (λ k. y k ++ z k)) j)) i

pub words_append : (a b : List ℕ) → words (a ++ b) ≡ words a ++ words b
unfolding words
words_append a b = flat_map-append (to_le_bytes w32) a b

pub words_nil : words [] ≡ []
unfolding words
words_nil = refl

-- the step of a loop that adds the words of each item
pub words_step : {X : Type 0} (f : X → List ℕ) (xs : List X) (i : ℕ) (x : X) (begin old new : List ℕ) → i < length xs → x ≡ get_or xs i x
    → old ≡ begin ++ words (flat_map f (take i xs)) → new ≡ old ++ words (f x) → new ≡ begin ++ words (flat_map f (take (i + 1) xs))
words_step f xs i x begin old new lt is h e =
    let whole : flat_map f (take (i + 1) xs) ≡ flat_map f (take i xs) ++ f x = ap (flat_map f) (take_one xs i x lt is) ∙ flat_map-append f (take i xs) (x ∷ []) ∙ ap (λ l. flat_map f (take i xs) ++ l) (append-nil (f x)) in
    let split : words (flat_map f (take (i + 1) xs)) ≡ words (flat_map f (take i xs)) ++ words (f x) = ap words whole ∙ words_append (flat_map f (take i xs)) (f x) in
    e ∙ ap (λ l. l ++ words (f x)) h ∙ append_assoc begin (words (flat_map f (take i xs))) (words (f x)) ∙ ap (λ l. begin ++ l) (sym split)

three_more : (a x y z w b c d e : List ℕ) → b ≡ a ++ x → c ≡ b ++ y → d ≡ c ++ z → e ≡ d ++ w → e ≡ a ++ (x ++ (y ++ (z ++ w)))
three_more a x y z w b c d e p q r s =
    s ∙ ap (λ l. l ++ w) (r ∙ ap (λ l. l ++ z) (q ∙ ap (λ l. l ++ y) p))
    ∙ append_assoc ((a ++ x) ++ y) z w ∙ append_assoc (a ++ x) y (z ++ w) ∙ append_assoc a x (y ++ (z ++ w))

filled_split : (h x y z : List ℕ) → words (h ++ (x ++ (y ++ z))) ≡ words h ++ (words x ++ (words y ++ words z))
filled_split h x y z = words_append h (x ++ (y ++ z)) ∙ ap (λ l. words h ++ l) (words_append x (y ++ z) ∙ ap (λ l. words x ++ l) (words_append y z))

pub filled_added : (r : Result Unit AllocError) (h x y z a b c d e : List ℕ) → b ≡ a ++ words h → c ≡ b ++ words x → d ≡ c ++ words y → OnOk r (e ≡ d ++ words z) → OnOk r (e ≡ a ++ words (h ++ (x ++ (y ++ z))))
filled_added (Ok u) h x y z a b c d e p q r s = three_more a (words h) (words x) (words y) (words z) b c d e p q r s ∙ ap (λ l. a ++ l) (sym (filled_split h x y z))
filled_added (Err u) h x y z a b c d e p q r s = tt

pub counts_added : (r : Result Unit AllocError) (plan : Plan) (a b c d e : List ℕ) → b ≡ a ++ length plan.class.marks ∷ []
    → c ≡ b ++ map (λ f. length (field_marks plan.class f.1)) plan.fields → d ≡ c ++ map (λ m. length (method_marks plan.class m.place)) plan.methods
    → OnOk r (e ≡ d ++ flat_map (λ m. map length (parameter_marks plan.class m.place)) plan.methods) → OnOk r (e ≡ a ++ set_counts plan)
counts_added (Ok u) plan a b c d e p q r s =
    three_more a (length plan.class.marks ∷ []) (map (λ f. length (field_marks plan.class f.1)) plan.fields) (map (λ m. length (method_marks plan.class m.place)) plan.methods) (flat_map (λ m. map length (parameter_marks plan.class m.place)) plan.methods) b c d e p q r s
    ∙ ap (λ l. a ++ l) (sym (counts_of_sets plan))
counts_added (Err u) plan a b c d e p q r s = tt

pub bare_words : (own : ℕ) (fields methods parameters : List Numbered) (begin : List ℕ) → is_bare own fields methods parameters ≡ true → begin ≡ begin ++ words (directory_words own fields methods parameters)
bare_words own fields methods parameters begin h = rw (h, words_nil) (sym (append-nil begin))

pub other_words : (own : ℕ) (fields methods parameters : List Numbered) → is_bare own fields methods parameters ≡ false → words (filled_words own fields methods parameters) ≡ words (directory_words own fields methods parameters)
other_words own fields methods parameters h = rw h refl
