-- The sets that are written, and the lists of sets, are the texts of what the classes name.
use Rattle.std.proofs.Common.{◌≡◌, ◌≤◌, ◌<◌, ◌+◌, ◌-◌, ℕ, zero, suc, List, [], ◌∷◌, ◌++◌, length, map, take, drop, refl, sym, ap, subst, ◌∙◌, arith, append_assoc, append-nil, length-append, length-drop}
use Rattle.std.specs.List.{flat_map, AllByRecursion}
use Rattle.std.proofs.lemmas.List.{length-map, length-take-le, take-append-le, drop-append-le}
use Rattle.std.proofs.lemmas.List.Concat.{flat_map-append}
use Rattle.program_model.specs.declared.pass.Renumber.{Renumber}
use Rattle.program_model.specs.declared.value.EncValue.{EncValue}
use Rattle.program_model.specs.declared.value.Mark.{Mark}
use Rattle.dex_write.specs.declared.tables.ClassOffsets.{ClassOffsets}
use Rattle.dex_write.specs.Numbers.{words}
use Rattle.dex_write.specs.Plans.{Plan}
use Rattle.dex_write.specs.Codes.{codes_behind, lines_behind}
use Rattle.dex_write.specs.Sets.{counted, sets_of, set_counts, ref_counts, own_count, parameter_count, own_offsets, behind_class, parameter_offsets, ordered_marks, marks_of}
use Rattle.dex_defs.specs.Texts.{offsets_text}
use Rattle.dex_defs.specs.Valid.{ClassPart, SetPart}
use Rattle.write_laws.specs.Placing.{entry_texts}
use Rattle.write_laws.proofs.Numbers.{same_words}
use Rattle.write_laws.proofs.Lying.{total}
use Rattle.write_laws.proofs.Fitting.{plan_long, sum_total}
use Rattle.written_file.specs.Parts.{split_by, class_parts, found_sets}

-- ---- lists of offsets

no_words : words [] ≡ []
unfolding words
no_words = refl

text_counted : (base n : ℕ) (os : List ℕ) → length os ≡ n → offsets_text (map (λ o. base + o) os) ≡ words (counted base n os)
text_counted base zero [] e = sym no_words
text_counted base (suc n) [] e = absurd (omega (arith, e))
text_counted base zero (o ∷ os) e = absurd (omega (arith, e))
text_counted base (suc n) (o ∷ os) e =
    let many : length (map (λ x. base + x) (o ∷ os)) ≡ suc n = length-map (o ∷ os) (λ x. base + x) ∙ e in
    sym (same_words (length (map (λ x. base + x) (o ∷ os)) ∷ map (λ x. base + x) (o ∷ os))) ∙ ap (λ (k : ℕ). words (k ∷ map (λ x. base + x) (o ∷ os))) many

same_offsets : (os : List ℕ) → map (λ o. 0 + o) os ≡ os
same_offsets [] = refl
same_offsets (o ∷ os) = let e : 0 + o ≡ o = omega arith in ap (λ (n : ℕ). n ∷ map (λ x. 0 + x) os) e ∙ ap (λ (l : List ℕ). o ∷ l) (same_offsets os)

split_texts : (ns os : List ℕ) → total ns ≤ length os → map offsets_text (split_by ns os) ≡ entry_texts 0 ns os
split_texts [] os le = refl
split_texts (n ∷ ns) os le =
    let one : offsets_text (take n os) ≡ words (counted 0 n (take n os)) = ap offsets_text (sym (same_offsets (take n os))) ∙ text_counted 0 n (take n os) (length-take-le n os (omega (arith, le))) in
    ap (λ (l : List ℕ). l ∷ map offsets_text (split_by ns (drop n os))) one
    ∙ ap (λ (l : List (List ℕ)). words (counted 0 n (take n os)) ∷ l) (split_texts ns (drop n os) (omega (arith, le, length-drop n os)))

pub entries_both : (base : ℕ) (ns ms xs ys : List ℕ) → length xs ≡ total ns → entry_texts base (ns ++ ms) (xs ++ ys) ≡ entry_texts base ns xs ++ entry_texts base ms ys
entries_both base [] ms [] ys e = refl
entries_both base [] ms (x ∷ xs) ys e = absurd (omega (arith, e))
entries_both base (n ∷ ns) ms xs ys e =
    let front : take n (xs ++ ys) ≡ take n xs = take-append-le n xs ys (omega (arith, e)) in
    let back : drop n (xs ++ ys) ≡ drop n xs ++ ys = drop-append-le n xs ys (omega (arith, e)) in
    ap (λ (l : List ℕ). words (counted base n l) ∷ entry_texts base (ns ++ ms) (drop n (xs ++ ys))) front
    ∙ ap (λ (l : List ℕ). words (counted base n (take n xs)) ∷ entry_texts base (ns ++ ms) l) back
    ∙ ap (λ (l : List (List ℕ)). words (counted base n (take n xs)) ∷ l) (entries_both base ns ms (drop n xs) ys (omega (arith, e, length-drop n xs)))

map_both : {X Y : Type 0} (f : X → Y) (xs ys : List X) → map f (xs ++ ys) ≡ map f xs ++ map f ys
map_both f [] ys = refl
map_both f (x ∷ xs) ys = ap (λ l. f x ∷ l) (map_both f xs ys)

pub refs_texts : (r : Renumber) (offsets : ClassOffsets) (values : Plan → List EncValue) (place code_at lines_at : ℕ) (sets refs : List ℕ) (ps : List Plan) → length (flat_map set_counts ps) ≤ length sets
    → flat_map (λ c. map offsets_text c.refs) (class_parts r offsets values place code_at lines_at sets refs ps) ≡ entry_texts 0 (flat_map ref_counts ps) (parameter_offsets ps sets)
refs_texts r offsets values place code_at lines_at sets refs [] le = refl
refs_texts r offsets values place code_at lines_at sets refs (p ∷ ps) le =
    let rest : List ClassPart = class_parts r offsets values (suc place) (codes_behind code_at p.methods) (lines_behind lines_at p.methods) (behind_class p sets) (drop (length p.methods) refs) ps in
    let long : length (flat_map set_counts (p ∷ ps)) ≡ (own_count p + parameter_count p) + length (flat_map set_counts ps) = length-append (set_counts p) (flat_map set_counts ps) ∙ ap (λ (n : ℕ). n + length (flat_map set_counts ps)) (plan_long p) in
    let own : length (own_offsets p sets) ≡ total (ref_counts p) = length-take-le (parameter_count p) (drop (own_count p) sets) (omega (arith, le, long, length-drop (own_count p) sets)) ∙ sum_total (ref_counts p) in
    let behind : length (behind_class p sets) ≡ length sets - own_count p - parameter_count p = length-drop (parameter_count p) (drop (own_count p) sets) ∙ ap (λ (n : ℕ). n - parameter_count p) (length-drop (own_count p) sets) in
    ap (λ (l : List (List ℕ)). l ++ flat_map (λ c. map offsets_text c.refs) rest) (split_texts (ref_counts p) (own_offsets p sets) (omega (arith, own)))
    ∙ ap (λ (l : List (List ℕ)). entry_texts 0 (ref_counts p) (own_offsets p sets) ++ l) (refs_texts r offsets values (suc place) (codes_behind code_at p.methods) (lines_behind lines_at p.methods) (behind_class p sets) (drop (length p.methods) refs) ps (omega (arith, le, long, behind)))
    ∙ sym (entries_both 0 (ref_counts p) (flat_map ref_counts ps) (own_offsets p sets) (parameter_offsets ps (behind_class p sets)) own)

-- ---- sets

pub sets_texts : (r : Renumber) (base : ℕ) (mss : List (List Mark)) (starts : List ℕ) → total (map length mss) ≤ length starts → map (λ s. offsets_text s.offsets) (found_sets r base mss starts) ≡ entry_texts base (map length mss) starts
sets_texts r base [] starts le = refl
sets_texts r base (ms ∷ mss) starts le =
    ap (λ (l : List ℕ). l ∷ map (λ s. offsets_text s.offsets) (found_sets r base mss (drop (length ms) starts))) (text_counted base (length ms) (take (length ms) starts) (length-take-le (length ms) starts (omega (arith, le))))
    ∙ ap (λ (l : List (List ℕ)). words (counted base (length ms) (take (length ms) starts)) ∷ l) (sets_texts r base mss (drop (length ms) starts) (omega (arith, le, length-drop (length ms) starts)))

take_rest : (n : ℕ) (xs : List ℕ) → take n xs ++ drop n xs ≡ xs
take_rest zero xs = refl
take_rest (suc n) [] = refl
take_rest (suc n) (x ∷ xs) = ap (λ (l : List ℕ). x ∷ l) (take_rest n xs)

pub starts_named : (r : Renumber) (base : ℕ) (mss : List (List Mark)) (starts : List ℕ) → length starts ≡ total (map length mss) → flat_map (λ s. s.offsets) (found_sets r base mss starts) ≡ map (λ s. base + s) starts
starts_named r base [] [] e = refl
starts_named r base [] (s ∷ ss) e = absurd (omega (arith, e))
starts_named r base (ms ∷ mss) starts e =
    ap (λ (l : List ℕ). map (λ s. base + s) (take (length ms) starts) ++ l) (starts_named r base mss (drop (length ms) starts) (omega (arith, e, length-drop (length ms) starts)))
    ∙ sym (map_both (λ (s : ℕ). base + s) (take (length ms) starts) (drop (length ms) starts))
    ∙ ap (λ (l : List ℕ). map (λ s. base + s) l) (take_rest (length ms) starts)

pub counts_are : (ps : List Plan) → flat_map set_counts ps ≡ map length (flat_map sets_of ps)
unfolding set_counts
counts_are [] = refl
counts_are (p ∷ ps) = ap (λ (l : List ℕ). map length (sets_of p) ++ l) (counts_are ps) ∙ sym (map_both (length {A = Mark}) (sets_of p) (flat_map sets_of ps))

pub marks_are : (r : Renumber) (ps : List Plan) → flat_map (marks_of r) ps ≡ flat_map (ordered_marks r) (flat_map sets_of ps)
unfolding marks_of
marks_are r [] = refl
marks_are r (p ∷ ps) = ap (λ (l : List Mark). flat_map (ordered_marks r) (sets_of p) ++ l) (marks_are r ps) ∙ sym (flat_map-append (ordered_marks r) (sets_of p) (flat_map sets_of ps))
