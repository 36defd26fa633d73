-- By number, the methods that the framework can't call back, since no type of the framework declares them: shut methods (this
-- project's profile). The framework enters declared methods alone; what it declares is read off a library of stubs. A class is
-- named by its place in the program, a type of the library by its text.
use Rattle.std.specs.Prelude.{◌≡◌, ℕ, zero, suc, ◌+◌, Bool, true, false, ◌&&◌, ◌||◌, not, List, [], ◌∷◌, ◌++◌, length, flat_map, Option, Some, None, nat_eq, is_some, is_none, slice_get, cond, if◌then◌else◌}
use Rattle.std.specs.List.{list_any, list_all}
use Rattle.std.specs.Cmp.Lexicographic.{pointwise}
use Rattle.insn_set.specs.declared.form.Insn.{Insn}
use Rattle.insn_set.specs.declared.form.Insn.TheVariants as insn
use Rattle.insn_set.specs.declared.ops.InvokeKind.TheVariants as call
use Rattle.program_model.specs.Lookups.{class_place, method_place}
use Rattle.program_model.specs.MemberRules.{has_flag, is_direct, is_object}
use Rattle.program_model.specs.Texts.{string_text, type_text}
use Rattle.program_model.specs.declared.pools.MethodName.{MethodName}
use Rattle.program_model.specs.declared.pass.Outside.{Outside}
use Rattle.program_model.specs.declared.program.MethodAt.{MethodAt}
use Rattle.program_model.specs.declared.program.Method.{Method}
use Rattle.program_model.specs.declared.program.Class.{Class}
use Rattle.program_model.specs.declared.program.Program.{Program}
use Rattle.class_defs.specs.Places.{is_under}
use Rattle.class_defs.specs.Members.{names_method, is_common}
use Rattle.class_defs.specs.Finding.{Search, finds_at, is_037}
use Rattle.stub_library.specs.Stubs.{proto_text}
use Rattle.stub_library.specs.declared.library.LibraryClass.{LibraryClass}
use Rattle.stub_library.specs.declared.library.Library.{Library}

-- ---- tests of all classes by their places

abbrev pub each_class : (ℕ → Class → Bool) → ℕ → List Class → Bool
each_class test i [] = true
each_class test i (k ∷ ks) = test i k && each_class test (suc i) ks

abbrev pub some_class : (ℕ → Class → Bool) → ℕ → List Class → Bool
some_class test i [] = false
some_class test i (k ∷ ks) = test i k || some_class test (suc i) ks

-- ---- the library

abbrev pub same_text : List ℕ → List ℕ → Bool
same_text = pointwise nat_eq

abbrev pub declares : Library → List ℕ → Bool
declares l t = list_any (λ c. same_text c.name t) l.classes

-- the types directly above one by all its declarations
abbrev pub above_of : Library → List ℕ → List (List ℕ)
above_of l t = flat_map (λ c. cond (same_text c.name t) c.above []) l.classes

-- whether a declaration has a virtual method of a name and a proto, and whether one of a type has
abbrev pub has_method : List ℕ → List ℕ → LibraryClass → Bool
has_method n q c = list_any (λ m. same_text m.name n && same_text m.proto q) c.methods

abbrev pub declares_method : Library → List ℕ → List ℕ → List ℕ → Bool
declares_method l t n q = list_any (λ c. same_text c.name t && has_method n q c) l.classes

-- each type met on the walk from a type is Object or declared, and none declares the method
abbrev pub walk_clear : ℕ → Library → List ℕ → List ℕ → List ℕ → Bool
walk_clear zero l n q t = true
walk_clear (suc k) l n q t = (is_object t || declares l t) && not (declares_method l t n q) && list_all (walk_clear k l n q) (above_of l t)

-- ---- methods

-- a test of the entry of a method number
abbrev pub if_entry : (MethodName → Bool) → Option MethodName → Bool
if_entry test None = false
if_entry test (Some q) = test q

-- whether a type that is listed isn't the framework's, or all that is met above it is known and lacks the method
abbrev pub type_clear : Program → Library → MethodName → ℕ → Bool
type_clear p l q t = is_some (class_place p t) || is_object (type_text p t) || walk_clear (length l.classes + 2) l (string_text p q.name) (proto_text p q.proto) (type_text p t)

-- the framework types above a class by the program's lists
abbrev pub types_clear : Program → Library → MethodName → ℕ → Bool
types_clear p l q d = each_class (λ e u. not (is_under p d e) || list_all (type_clear p l q) (u.superclass ∷ u.interfaces)) 0 p.classes

-- whether a class finds the method of another by its name and proto
abbrev pub is_found_in : ℕ → Search → Bool
is_found_in c (Search.Finds at) = nat_eq at.class c
is_found_in c s = false

abbrev pub finds_it : Program → ℕ → MethodName → ℕ → Bool
finds_it p c q d = is_found_in c (finds_at p d q.name q.proto)

-- a virtual or interface call that names the method on a type other than Object that the program doesn't define
abbrev pub is_outside : Program → MethodName → MethodName → Bool
is_outside p q callee = nat_eq callee.name q.name && nat_eq callee.proto q.proto && is_none (class_place p callee.class) && not (is_object (type_text p callee.class))

abbrev pub calls_outside : Program → MethodName → Insn → Bool
calls_outside p q (insn.Invoke call.Virtual method args) = if_entry (is_outside p q) (slice_get p.methods method)
calls_outside p q (insn.Invoke call.Interface method args) = if_entry (is_outside p q) (slice_get p.methods method)
calls_outside p q other = false

abbrev pub called_outside : Program → MethodName → Bool
called_outside p q = list_any (λ k. list_any (λ m. elim m.body [ Some b ↦ list_any (calls_outside p q) b.insns | None ↦ false ]) k.methods) p.classes

abbrev pub is_kept : Outside → ℕ → Bool
is_kept o n = list_any (nat_eq n) o.methods

-- whether the framework may call the method by a kept virtual one of its name and proto in a class
abbrev pub keeps_name : Program → Outside → MethodName → Class → Bool
keeps_name p o q u = list_any (λ x. names_method q.name q.proto (slice_get p.methods x.name) && not (is_direct p x) && is_kept o x.name) u.methods

abbrev pub keeper_over : Program → Outside → MethodName → ℕ → Bool
keeper_over p o q d = some_class (λ e u. is_under p d e && keeps_name p o q u) 0 p.classes

-- another virtual method with code of the name and proto
abbrev pub is_other : Program → ℕ → MethodName → ℕ → Method → Bool
is_other p c q e x = names_method q.name q.proto (slice_get p.methods x.name) && not (is_direct p x) && is_some x.body && not (nat_eq e c)

-- what the method says alone
abbrev pub is_loose : Program → Outside → MethodName → Class → Method → Bool
is_loose p o q k m = not (is_direct p m) && not (is_kept o m.name) && not (is_common p q.name q.proto) && not (is_037 p.version && has_flag k.flags 512) && not (called_outside p q)

-- what a class that finds it says
abbrev pub is_clear_at : Program → Outside → Library → MethodName → ℕ → Bool
is_clear_at p o l q d = not (keeper_over p o q d) && types_clear p l q d

-- A virtual method of a class that isn't kept, that not every object answers to, in version 037 of no interface. No class that
-- finds it stands under one with a kept virtual method of its name, or has a framework type above it that may declare it; no
-- call names it on the framework, and every other method of its name with code above such a class is kept or shut.
abbrev pub is_shut : ℕ → Program → Outside → Library → ℕ → Class → Method → Bool
is_shut zero p o l c k m = false
is_shut (suc n) p o l c k m = if_entry (λ q.
    is_loose p o q k m
    && each_class (λ d _. not (finds_it p c q d)
    || (is_clear_at p o l q d
    && each_class (λ e u. not (is_under p d e) || list_all (λ x. not (is_other p c q e x) || is_kept o x.name || is_shut n p o l e u x) u.methods) 0 p.classes)) 0 p.classes)
    (slice_get p.methods m.name)

-- whether the method of a number is shut
abbrev pub shut_there : ℕ → Program → Outside → Library → ℕ → ℕ → Option Class → Bool
shut_there n p o l c i None = false
shut_there n p o l c i (Some k) = elim (slice_get k.methods i) [ Some m ↦ is_shut n p o l c k m | None ↦ false ]

abbrev pub shut_at : ℕ → Program → Outside → Library → Option MethodAt → Bool
shut_at n p o l None = false
shut_at n p o l (Some at) = shut_there n p o l at.class at.place (slice_get p.classes at.class)

abbrev pub shut_number : Program → Outside → Library → ℕ → Bool
shut_number p o l n = shut_at (suc (length p.classes)) p o l (method_place p n)

-- the numbers below a bound that pass a test, ascending
abbrev pub passing_below : (ℕ → Bool) → ℕ → List ℕ
passing_below test zero = []
passing_below test (suc n) = passing_below test n ++ (if test n then n ∷ [] else [])

-- The outside with the list of all shut methods by number, ascending, and all else as it was.
pub record IsNarrowed (p : Program) (o : Outside) (l : Library) (new : Outside) : Type 0 where
  pub rest : new ≡ record o { shut = new.shut }
  pub shut : new.shut ≡ passing_below (shut_number p o l) (length p.methods)
