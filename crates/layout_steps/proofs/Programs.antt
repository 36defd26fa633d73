-- What a plan makes of lists, and programs without some classes and members.
use Rattle.std.proofs.Common.{◌≡◌, ℕ, zero, suc, List, [], ◌∷◌, filter, Some, refl, All}
use Rattle.std.specs.Prelude.{slice_get, slice_index_or}
use Rattle.std.proofs.lemmas.List.Elements.{All-nil, All-cons, All-head, All-tail, All-map}
use Rattle.program_model.specs.declared.program.Program.{Program}
use Rattle.call_graph.specs.declared.live_set.LiveSet.{LiveSet}
use Rattle.reach.specs.Kept.{is_marked, kept_in, kept_of}
use Rattle.rewrite_pass.specs.Plans.{each_by}
use Rattle.dex_defs.specs.LaysOut.{LaysOut}
use Rattle.layout_law.proofs.Methods.{MethodLies, ClassLies, got_all, all_got, all_filter}

-- what a plan makes of items, place by place
pub all_by : {A E : Type 0} (P : A → Type 0) (by : List E → A → A) (plan : List (List E)) (xs : List A)
    → ((n : ℕ) (x : A) → slice_get xs n ≡ Some x → P x → P (by (slice_index_or plan n []) x)) → All P xs → All P (each_by by plan xs)
all_by P by [] xs h a = a
all_by P by (es ∷ plan) [] h a = All-nil P
all_by P by (es ∷ plan) (x ∷ xs) h a = All-cons P (by es x) (each_by by plan xs) (h zero x refl (All-head P x xs a)) (all_by P by plan xs (λ n y e. h (suc n) y e) (All-tail P x xs a))

-- ---- removal

pub removed_lies : (s : LiveSet) (p : Program) → LaysOut p → LaysOut (kept_of s p)
removed_lies s p l = All-map ClassLies (kept_in s) (filter (λ c. is_marked s.classes.items c.name) p.classes)
    (all_filter (λ c. ClassLies (kept_in s c)) (λ c. is_marked s.classes.items c.name) p.classes (all_got (λ c. ClassLies (kept_in s c)) p.classes (λ n c e. all_filter MethodLies (λ m. is_marked s.methods.items m.name) c.methods (got_all ClassLies p.classes n c l e))))
