-- What one step notes.
use Rattle.std.proofs.Common.{◌≡◌, ◌∙◌, ℕ, ◌-◌, ◌^◌, ◌≤◌, Bool, true, false, List, [], ◌∷◌, ◌++◌, length, vec_len, min, nat_eq, refl, sym, ap, subst, arith, Some, None, Option}
use Rattle.std.specs.Prelude.{◌||◌, not, is_some, cond, slice_get, slice_set, Vec}
use Rattle.std.specs.Vec.{with_items}
use Rattle.std.proofs.Math.Nat.{min-eq_left}
use Rattle.std.proofs.lemmas.List.{with_items_is}
use Rattle.program_model.specs.declared.pools.MethodName.{MethodName}
use Rattle.program_model.specs.declared.program.Class.{Class}
use Rattle.program_model.specs.declared.program.Method.{Method}
use Rattle.program_model.specs.declared.program.MethodAt.{MethodAt}
use Rattle.program_model.specs.declared.program.Program.{Program}
use Rattle.program_model.specs.Lookups.{class_place, method_or}
use Rattle.program_model.specs.MemberRules.{is_static, is_direct}
use Rattle.class_defs.specs.Finding.{Search, Nothing, Clash, Finds, finds_at}
use Rattle.class_defs.specs.Starts.{initialiser_place}
use Rattle.call_targets.specs.declared.bound.Target.TheVariants as target
use Rattle.call_targets.specs.declared.kept.Kept.{Kept}
use Rattle.call_targets.specs.declared.named.Call.{Call}
use Rattle.call_targets.specs.declared.table.Targets.{Targets}
use Rattle.call_targets.specs.Adding.{Note, Links, Leaves, Enters, Needs, Adds, TurnsOn}
use Rattle.call_targets.specs.Beginning.{is_entered, static_notes, is_empty, may_be_made_by, class_notes}
use Rattle.call_targets.specs.Bound.{target_found}
use Rattle.call_targets.specs.Leaving.{admits_any, name_notes}
use Rattle.call_targets.specs.Noting.{link_notes, search_notes, call_notes_of, call_notes, enter_notes, answer_notes, found_notes, is_called_back, virtual_notes_of, virtual_notes, method_notes}
use Rattle.call_targets.specs.Targeted.{is_on, call_at}
use Rattle.call_targets.proofs.Adding.{turned, set_length, adds_same}

-- ---- marks

-- the number of the calls that name a method of the table
pub number_is : (method : ℕ) (interface : Bool) (n : ℕ) → method ≤ 65536 → n ≡ min (call_at method interface) (2 ^ 32 - 1) → n ≡ call_at method interface
number_is method true n few e = e ∙ min-eq_left (omega (arith, few))
number_is method false n few e = e ∙ min-eq_left (omega (arith, few))

-- a mark that is set in a borrowed table
pub turn : (number at : ℕ) (slice old new : List Bool) → new ≡ slice_set slice at true → slice ≡ old → at ≡ number → TurnsOn number old new
turn number at slice old new e s a = turned number old new (e ∙ ap (λ l. slice_set l at true) s ∙ ap (λ k. slice_set old k true) a)

pub turn_in : {Z : Type 0} (v : Vec Bool Z) (number at : ℕ) (slice marks : List Bool) → marks ≡ slice_set slice at true → slice ≡ v.items → length slice ≡ vec_len v → at ≡ number → TurnsOn number v.items (with_items v marks).items
turn_in v number at slice marks e s l a = subst (TurnsOn number v.items) (sym (with_items_is v marks (ap length e ∙ set_length slice at ∙ l))) (turn number at slice v.items marks e s a)

module _ (a b : Targets) where
  -- ---- calls that leave by their name

  pub name_two : (p : Program) (m : ℕ) (q : MethodName) (any : Bool) → any ≡ admits_any p (class_place p q.class) → any ≡ true → Adds (Leaves (call_at m true) ∷ Leaves (call_at m false) ∷ []) a b → Adds (name_notes p m q) a b
  name_two p m q any e h f = adds_same (Leaves (call_at m true) ∷ Leaves (call_at m false) ∷ []) (name_notes p m q) a b (ap (λ z. Leaves (call_at m true) ∷ cond z (Leaves (call_at m false) ∷ []) []) (sym h ∙ e)) f

  pub name_one : (p : Program) (m : ℕ) (q : MethodName) (any : Bool) → any ≡ admits_any p (class_place p q.class) → any ≡ false → Adds (Leaves (call_at m true) ∷ []) a b → Adds (name_notes p m q) a b
  name_one p m q any e h f = adds_same (Leaves (call_at m true) ∷ []) (name_notes p m q) a b (ap (λ z. Leaves (call_at m true) ∷ cond z (Leaves (call_at m false) ∷ []) []) (sym h ∙ e)) f

  -- ---- methods that are entered

  pub enters_so : (m : Method) → is_some m.body ≡ true → Adds (Enters m.name ∷ []) a b → Adds (enter_notes m) a b
  enters_so m h f = adds_same (Enters m.name ∷ []) (enter_notes m) a b (sym (ap (λ t. cond t (Enters m.name ∷ []) []) h)) f

  pub enters_not : (m : Method) → is_some m.body ≡ false → Adds [] a b → Adds (enter_notes m) a b
  enters_not m h f = adds_same [] (enter_notes m) a b (sym (ap (λ t. cond t (Enters m.name ∷ []) []) h)) f

  pub answer_none : (any : Bool) (number : ℕ) (o : Option Method) → o ≡ None → Adds [] a b → Adds (answer_notes any number o) a b
  answer_none any number o e f = adds_same [] (answer_notes any number o) a b (sym (ap (answer_notes any number) e)) f

  pub answer_some : (any : Bool) (number : ℕ) (o : Option Method) (m : Method) → o ≡ Some m → (any || nat_eq m.name number) ≡ true → Adds (enter_notes m) a b → Adds (answer_notes any number o) a b
  answer_some any number o m e h f = adds_same (enter_notes m) (answer_notes any number o) a b (sym (ap (answer_notes any number) e ∙ ap (λ t. cond t (enter_notes m) []) h)) f

  pub answer_not : (any : Bool) (number : ℕ) (o : Option Method) (m : Method) → o ≡ Some m → (any || nat_eq m.name number) ≡ false → Adds [] a b → Adds (answer_notes any number o) a b
  answer_not any number o m e h f = adds_same [] (answer_notes any number o) a b (sym (ap (answer_notes any number) e ∙ ap (λ t. cond t (enter_notes m) []) h)) f

-- ---- what a target says of a search

pub one_found : (s : Search) (at : MethodAt) → target.One at ≡ target_found s → s ≡ Finds at
one_found Nothing at e = cc
one_found Clash at e = cc
one_found (Finds k) at e = let s : at ≡ k = cc in ap Finds (sym s)

pub nothing_found : (s : Search) → target.Nothing ≡ target_found s → s ≡ Nothing
nothing_found Nothing e = refl
nothing_found Clash e = cc
nothing_found (Finds k) e = cc

pub clash_found : (s : Search) → target.Clash ≡ target_found s → s ≡ Clash
clash_found Nothing e = cc
clash_found Clash e = refl
clash_found (Finds k) e = cc

module _ (a b : Targets) where
  -- ---- a call on an object

  pub link_coded : (call : ℕ) (o : Option Method) (m : Method) → o ≡ Some m → is_some m.body ≡ true → Adds (Links (record { call = call; method = m.name }) ∷ []) a b → Adds (link_notes call o) a b
  link_coded call o m e h f = adds_same (Links (record { call = call; method = m.name }) ∷ []) (link_notes call o) a b (sym (ap (link_notes call) e ∙ ap (λ t. cond t (Links (record { call = call; method = m.name }) ∷ []) (Leaves call ∷ [])) h)) f

  pub link_empty : (call : ℕ) (o : Option Method) (m : Method) → o ≡ Some m → is_some m.body ≡ false → Adds (Leaves call ∷ []) a b → Adds (link_notes call o) a b
  link_empty call o m e h f = adds_same (Leaves call ∷ []) (link_notes call o) a b (sym (ap (link_notes call) e ∙ ap (λ t. cond t (Links (record { call = call; method = m.name }) ∷ []) (Leaves call ∷ [])) h)) f

  pub link_none : (call : ℕ) (o : Option Method) → o ≡ None → Adds (Leaves call ∷ []) a b → Adds (link_notes call o) a b
  link_none call o e f = adds_same (Leaves call ∷ []) (link_notes call o) a b (sym (ap (link_notes call) e)) f

module _ (a b : Targets) (p : Program) (class : ℕ) where
  pub call_unnamed : (call : Call) → slice_get p.methods call.method ≡ None → Adds [] a b → Adds (call_notes p class call) a b
  call_unnamed call e f = adds_same [] (call_notes p class call) a b (sym (ap (call_notes_of p class call.number) e)) f

  pub call_found : (call : Call) (q : MethodName) (s : Search) → slice_get p.methods call.method ≡ Some q → finds_at p class q.name q.proto ≡ s → Adds (search_notes p call.number s) a b → Adds (call_notes p class call) a b
  call_found call q s e h f = adds_same (search_notes p call.number s) (call_notes p class call) a b (sym (ap (call_notes_of p class call.number) e ∙ ap (search_notes p call.number) h)) f

  -- ---- a method above

  module _ (k : Kept) (outer : Bool) (number : ℕ) where
    pub virtual_none : slice_get p.methods number ≡ None → Adds [] a b → Adds (virtual_notes p k class outer number) a b
    virtual_none e f = adds_same [] (virtual_notes p k class outer number) a b (sym (ap (virtual_notes_of p k class outer number) e)) f

    pub virtual_not : (q : MethodName) → slice_get p.methods number ≡ Some q → (is_on k.methods.items number || is_called_back p k outer number q) ≡ false → Adds [] a b → Adds (virtual_notes p k class outer number) a b
    virtual_not q e h f = adds_same [] (virtual_notes p k class outer number) a b (sym (ap (virtual_notes_of p k class outer number) e ∙ ap (λ t. cond t (found_notes p (is_on k.methods.items number) number (finds_at p class q.name q.proto)) []) h)) f

    pub virtual_found : (q : MethodName) (s : Search) → slice_get p.methods number ≡ Some q → (is_on k.methods.items number || is_called_back p k outer number q) ≡ true → finds_at p class q.name q.proto ≡ s → Adds (found_notes p (is_on k.methods.items number) number s) a b → Adds (virtual_notes p k class outer number) a b
    virtual_found q s e h d f = adds_same (found_notes p (is_on k.methods.items number) number s) (virtual_notes p k class outer number) a b (sym (ap (virtual_notes_of p k class outer number) e ∙ ap (λ t. cond t (found_notes p (is_on k.methods.items number) number (finds_at p class q.name q.proto)) []) h ∙ ap (found_notes p (is_on k.methods.items number) number) d)) f

  pub method_static : (k : Kept) (outer : Bool) (m : Method) → is_static m.flags ≡ true → Adds [] a b → Adds (method_notes p k class outer m) a b
  method_static k outer m h f = adds_same [] (method_notes p k class outer m) a b (sym (ap (λ t. cond t [] (cond (is_on k.methods.items m.name) (enter_notes m) [] ++ cond (is_direct p m) [] (virtual_notes p k class outer m.name))) h)) f

  pub method_held : (k : Kept) (outer : Bool) (m : Method) (keeps direct : Bool) → is_static m.flags ≡ false → is_on k.methods.items m.name ≡ keeps → is_direct p m ≡ direct → Adds (cond keeps (enter_notes m) [] ++ cond direct [] (virtual_notes p k class outer m.name)) a b → Adds (method_notes p k class outer m) a b
  method_held k outer m keeps direct h e d f = adds_same (cond keeps (enter_notes m) [] ++ cond direct [] (virtual_notes p k class outer m.name)) (method_notes p k class outer m) a b
      (sym (ap (λ t. cond t [] (cond (is_on k.methods.items m.name) (enter_notes m) [] ++ cond (is_direct p m) [] (virtual_notes p k class outer m.name))) h ∙ ap (λ t. cond t (enter_notes m) [] ++ cond (is_direct p m) [] (virtual_notes p k class outer m.name)) e ∙ ap (λ t. cond keeps (enter_notes m) [] ++ cond t [] (virtual_notes p k class outer m.name)) d)) f

-- ---- before any object is made

module _ (a b : Targets) (k : Kept) where
  pub static_so : (o : Option MethodAt) (own : ℕ) (m : Method) → is_entered k o own m ≡ true → Adds (Enters m.name ∷ []) a b → Adds (static_notes k o own (m ∷ [])) a b
  static_so o own m h f = adds_same (Enters m.name ∷ []) (static_notes k o own (m ∷ [])) a b (sym (ap (λ t. cond t (Enters m.name ∷ []) [] ++ []) h)) f

  pub static_not : (o : Option MethodAt) (own : ℕ) (m : Method) → is_entered k o own m ≡ false → Adds [] a b → Adds (static_notes k o own (m ∷ [])) a b
  static_not o own m h f = adds_same [] (static_notes k o own (m ∷ [])) a b (sym (ap (λ t. cond t (Enters m.name ∷ []) [] ++ []) h)) f

  pub class_so : (p : Program) (place : ℕ) (c : Class) (o : Option MethodAt) (any : Bool) → o ≡ method_or place (initialiser_place p place) None → any ≡ (not (is_empty (static_notes k o 0 c.methods)) || may_be_made_by p k c) → Adds (static_notes k o 0 c.methods ++ cond any (Needs place ∷ []) []) a b → Adds (class_notes p k place c) a b
  class_so p place c o any e h f =
      let notes : Option MethodAt → Bool → List Note = λ z t. static_notes k z 0 c.methods ++ cond t (Needs place ∷ []) [] in
      adds_same (notes o any) (class_notes p k place c) a b (ap (notes o) h ∙ ap (λ z. notes z (not (is_empty (static_notes k z 0 c.methods)) || may_be_made_by p k c)) e) f
