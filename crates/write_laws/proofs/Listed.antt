-- The members of the classes that are written: their class data is the text of their lists.
use Rattle.std.proofs.Common.{◌≡◌, ◌≤◌, ◌<◌, ◌+◌, ◌-◌, ℕ, List, [], ◌∷◌, ◌++◌, length, take, drop, map, refl, sym, ap, ◌∙◌, arith, append_assoc, append-nil, length-append, length-drop}
use Rattle.std.specs.Prelude.{true, false, nat_eq, if◌then◌else◌}
use Rattle.std.specs.List.{AllByRecursion}
use Rattle.std.proofs.lemmas.List.{length-take-le, length-map}
use Rattle.dex_base.specs.Leb.{uleb_text}
use Rattle.program_model.specs.declared.pass.Renumber.{Renumber}
use Rattle.program_model.specs.declared.program.Class.{Class}
use Rattle.program_model.specs.declared.program.Program.{Program}
use Rattle.dex_write.specs.declared.ordered.MethodPart.{MethodPart}
use Rattle.dex_write.specs.Plans.{Plan, Numbered, field_flags, method_flags, ordered_fields, ordered_methods, spot_of}
use Rattle.dex_write.specs.Codes.{IsPlan, code_offset, code_behind, codes_behind}
use Rattle.dex_write.specs.Data as writer
use Rattle.dex_write.specs.Written.{ArePlans}
use Rattle.dex_defs.specs.ClassData.{Lists}
use Rattle.dex_defs.specs.Texts.{fields_text, methods_text, counts_text, class_data_text, member_count, data_text}
use Rattle.write_laws.specs.Listing.{field_entry, method_entries, lists_in, all_lists_in}

-- ---- their texts

fields_same : (c : Class) (before : ℕ) (fs : List Numbered) → fields_text before (map (field_entry c) fs) ≡ writer.fields_text c before fs
fields_same c before [] = refl
fields_same c before (f ∷ fs) = ap (λ (l : List ℕ). uleb_text (f.0 - before) ++ (uleb_text (field_flags c f.1) ++ l)) (fields_same c f.0 fs)

methods_same : (c : Class) (before at : ℕ) (ms : List MethodPart) → methods_text before (method_entries c at ms) ≡ writer.methods_text c before at ms
methods_same c before at [] = refl
methods_same c before at (m ∷ ms) =
    let step : List ℕ = uleb_text (m.number - before) in
    let flags : List ℕ = uleb_text (method_flags c m.place) in
    let code : List ℕ = uleb_text (code_offset at m) in
    let rest : List ℕ = writer.methods_text c m.number (code_behind at m) ms in
    ap (λ (l : List ℕ). step ++ (flags ++ (code ++ l))) (methods_same c m.number (code_behind at m) ms)
    ∙ ap (λ (l : List ℕ). step ++ l) (sym (append_assoc flags code rest))
    ∙ sym (append_assoc step (flags ++ code) rest)

entries_long : (c : Class) (at : ℕ) (ms : List MethodPart) → length (method_entries c at ms) ≡ length ms
entries_long c at [] = refl
entries_long c at (m ∷ ms) = let more : length (method_entries c (code_behind at m) ms) ≡ length ms = entries_long c (code_behind at m) ms in omega (arith, more)

-- no more static fields and direct methods than there are
pub record FitsMembers (p : Plan) : Type 0 where
  pub statics : p.statics ≤ length p.fields
  pub directs : p.directs ≤ length p.methods

abbrev five : List ℕ → List ℕ → List ℕ → List ℕ → List ℕ → List ℕ
five a b c d e = a ++ (b ++ (c ++ (d ++ e)))

abbrev four : ℕ → ℕ → ℕ → ℕ → List ℕ
four a b c d = uleb_text a ++ (uleb_text b ++ (uleb_text c ++ uleb_text d))

pub members_same : (p : Plan) (at : ℕ) → FitsMembers p → data_text (lists_in p at) ≡ writer.data_text p at
unfolding writer.data_text
members_same p at fit =
    let l : Lists = lists_in p at in
    let s : length l.statics ≡ p.statics = length-map (take p.statics p.fields) (field_entry p.class) ∙ length-take-le p.statics p.fields fit.statics in
    let i : length l.instances ≡ length p.fields - p.statics = length-map (drop p.statics p.fields) (field_entry p.class) ∙ length-drop p.statics p.fields in
    let d : length l.directs ≡ p.directs = entries_long p.class at (take p.directs p.methods) ∙ length-take-le p.directs p.methods fit.directs in
    let v : length l.virtuals ≡ length p.methods - p.directs = entries_long p.class (codes_behind at (take p.directs p.methods)) (drop p.directs p.methods) ∙ length-drop p.directs p.methods in
    let counts : counts_text l ≡ four p.statics (length p.fields - p.statics) p.directs (length p.methods - p.directs) =
    ap (λ (n : ℕ). uleb_text n ++ (uleb_text (length l.instances) ++ (uleb_text (length l.directs) ++ (uleb_text (length l.virtuals) ++ [])))) s
    ∙ ap (λ (n : ℕ). uleb_text p.statics ++ (uleb_text n ++ (uleb_text (length l.directs) ++ (uleb_text (length l.virtuals) ++ [])))) i
    ∙ ap (λ (n : ℕ). uleb_text p.statics ++ (uleb_text (length p.fields - p.statics) ++ (uleb_text n ++ (uleb_text (length l.virtuals) ++ [])))) d
    ∙ ap (λ (n : ℕ). uleb_text p.statics ++ (uleb_text (length p.fields - p.statics) ++ (uleb_text p.directs ++ (uleb_text n ++ [])))) v
    ∙ ap (λ (t : List ℕ). uleb_text p.statics ++ (uleb_text (length p.fields - p.statics) ++ (uleb_text p.directs ++ t))) (append-nil (uleb_text (length p.methods - p.directs))) in
    let ss : List ℕ = writer.fields_text p.class 0 (take p.statics p.fields) in
    let is : List ℕ = writer.fields_text p.class 0 (drop p.statics p.fields) in
    let ds : List ℕ = writer.methods_text p.class 0 at (take p.directs p.methods) in
    let cs : List ℕ = four p.statics (length p.fields - p.statics) p.directs (length p.methods - p.directs) in
    let text : class_data_text l ≡ five cs ss is ds (writer.methods_text p.class 0 (codes_behind at (take p.directs p.methods)) (drop p.directs p.methods)) =
    ap (λ (t : List ℕ). five t (fields_text 0 l.statics) (fields_text 0 l.instances) (methods_text 0 l.directs) (methods_text 0 l.virtuals)) counts
    ∙ ap (λ (t : List ℕ). five cs t (fields_text 0 l.instances) (methods_text 0 l.directs) (methods_text 0 l.virtuals)) (fields_same p.class 0 (take p.statics p.fields))
    ∙ ap (λ (t : List ℕ). five cs ss t (methods_text 0 l.directs) (methods_text 0 l.virtuals)) (fields_same p.class 0 (drop p.statics p.fields))
    ∙ ap (λ (t : List ℕ). five cs ss is t (methods_text 0 l.virtuals)) (methods_same p.class 0 at (take p.directs p.methods))
    ∙ ap (λ (t : List ℕ). five cs ss is ds t) (methods_same p.class 0 (codes_behind at (take p.directs p.methods)) (drop p.directs p.methods)) in
    let many : member_count l ≡ length p.fields + length p.methods = omega (arith, s, i, d, v, fit.statics, fit.directs) in
    ap (λ (n : ℕ). if nat_eq n 0 then [] else class_data_text l) many
    ∙ ap (λ (t : List ℕ). if nat_eq (length p.fields + length p.methods) 0 then [] else t) text

pub all_members_same : (at : ℕ) (plans : List Plan) → AllByRecursion FitsMembers plans → map data_text (all_lists_in at plans) ≡ writer.data_texts at plans
all_members_same at [] fit = refl
all_members_same at (p ∷ ps) fit =
    ap (λ (t : List ℕ). t ∷ map data_text (all_lists_in (codes_behind at p.methods) ps)) (members_same p at fit.0)
    ∙ ap (λ (ts : List (List ℕ)). writer.data_text p at ∷ ts) (all_members_same (codes_behind at p.methods) ps fit.1)

-- ---- plans fit

plan_fits : (p : Program) (r : Renumber) (c : Class) (plan : Plan) → IsPlan p r c plan → FitsMembers plan
plan_fits p r c plan h = record {
  statics = omega (arith, h.statics, ap length h.fields, length-append (ordered_fields r c true) (ordered_fields r c false));
  directs = omega (arith, h.directs, ap length h.methods, length-map plan.methods spot_of, length-append (ordered_methods r p c true) (ordered_methods r p c false));
}

pub members_fit : (p : Program) (r : Renumber) (classes : List Class) (plans : List Plan) → ArePlans p r classes plans → AllByRecursion FitsMembers plans
members_fit p r [] [] h = tt
members_fit p r [] (plan ∷ plans) h = absurd h
members_fit p r (c ∷ cs) [] h = absurd h
members_fit p r (c ∷ cs) (plan ∷ plans) h = (plan_fits p r c plan h.0, members_fit p r cs plans h.1)

pub members_are : (p : Program) (r : Renumber) (classes : List Class) (plans : List Plan) (at : ℕ) → ArePlans p r classes plans → map data_text (all_lists_in at plans) ≡ writer.data_texts at plans
members_are p r classes plans at h = all_members_same at plans (members_fit p r classes plans h)
