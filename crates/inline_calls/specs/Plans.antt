-- The new bodies of the methods of a program, and what becomes of it.
use Rattle.std.specs.Prelude.{◌≡◌, ℕ, ◌+◌, ◌≤◌, Bool, true, false, nat_eq, if◌then◌else◌, List, [], ◌∷◌, ◌++◌, length, replicate, Option, Some, None, slice_get, slice_set, slice_index_or}
use Rattle.facts.specs.declared.facts.Facts.{Facts}
use Rattle.hierarchy.specs.declared.Hierarchy.{Hierarchy}
use Rattle.program_model.specs.Cells.{capped, cells_of}
use Rattle.program_model.specs.declared.pass.Origin.{Origin}
use Rattle.program_model.specs.declared.program.Method.{Method}
use Rattle.program_model.specs.declared.program.MethodAt.{MethodAt}
use Rattle.program_model.specs.declared.program.Class.{Class}
use Rattle.program_model.specs.declared.program.Program.{Program}
use Rattle.verify.specs.Methods.{IsFor as ForProgram}
use Rattle.splice.specs.declared.callee.Callee.{Callee}
use Rattle.splice.specs.declared.spliced.Spliced.{Spliced}
use Rattle.splice.specs.Shifted.{word}
use Rattle.inline_calls.specs.declared.site.Caller.{Caller}
use Rattle.inline_calls.specs.declared.caller.Inliner.{Inliner}
use Rattle.inline_calls.specs.declared.editing.Edit.{Edit}
use Rattle.inline_calls.specs.declared.done.Done.{Done}
use Rattle.inline_calls.specs.Asked.{Row, agreed_count}
use Rattle.inline_calls.specs.Accepting.{HasTried}
use Rattle.inline_calls.specs.Edited.{program_by}
use Rattle.inline_calls.specs.Rooms.{cells_with, new_of}

-- ---- what was done so far

-- nothing: the cells are those of the program, and no method has origins
abbrev pub nothing_done : Program → Done
nothing_done p = record { cells = capped (cells_of p); count = 0; origins = replicate (length p.methods) [] }

-- a new body of a caller more, which has copies in place of so many calls
abbrev pub noted : Caller → Option Spliced → ℕ → Done → Done
noted c None count d = d
noted c (Some s) count d = record {
  cells = cells_with d.cells c.body.now s.body;
  count = capped (d.count + count);
  origins = slice_set d.origins c.method.now.name s.origins;
}

abbrev pub edit_of : Option Spliced → Option Edit
edit_of None = None
edit_of (Some s) = Some (record { body = s.body; lines = s.lines })

-- ---- one method

-- the method with code at a place
pub record IsCallerOf (class : Class) (at : MethodAt) (m : Method) (c : Caller) : Type 0 where
  pub place : c.at ≡ at
  pub inside : c.class.now ≡ class
  pub method : c.method.now ≡ m
  pub code : m.body ≡ Some c.body.now

-- All positions of a caller were tried, one after the other. It has a new body where a call was accepted.
pub record HasLooked (i : Inliner) (c : Caller) (d : Done) (rows : List Row) (given : Option Edit) (e : Done) : Type 0 where
  pub chosen : List (Option Callee)
  pub tried : HasTried i c d.cells (length c.body.now.insns) rows chosen
  pub edit : given ≡ edit_of (new_of i c chosen)
  pub done : e ≡ noted c (new_of i c chosen) (capped (agreed_count rows)) d

-- nothing is asked about a method without code or one that isn't admitted
pub data LooksAt (i : Inliner) (class : Class) (at : MethodAt) (m : Method) (d : Done) : List Row → Option Edit → Done → Type 0 where
  Bare : m.body ≡ None → LooksAt i class at m d [] None d
  Barred : slice_index_or i.admitted.now m.name false ≡ false → LooksAt i class at m d [] None d
  Looked : (c : Caller) (rows : List Row) (edit : Option Edit) (e : Done) → slice_index_or i.admitted.now m.name false ≡ true → IsCallerOf class at m c → HasLooked i c d rows edit e
      → LooksAt i class at m d rows edit e

-- ---- one method, of which memory sufficed for a part alone

-- the first positions of a caller were tried
pub record HasBegun (i : Inliner) (c : Caller) (cells : ℕ) (rows : List Row) : Type 0 where
  pub count : ℕ
  pub within : count ≤ length c.body.now.insns
  pub chosen : List (Option Callee)
  pub tried : HasTried i c cells count rows chosen

pub record BeginsAt (i : Inliner) (class : Class) (at : MethodAt) (m : Method) (d : Done) (rows : List Row) : Type 0 where
  pub caller : Caller
  pub admitted : slice_index_or i.admitted.now m.name false ≡ true
  pub is : IsCallerOf class at m caller
  pub begun : HasBegun i caller d.cells rows

-- ---- all methods, one after the other

-- the first items of a list were looked at, with what this asked and gave and what was done then
pub data HaveLooked {A E : Type 0} (looks : ℕ → A → Done → List Row → E → Done → Type 0) (xs : List A) (d : Done) : ℕ → List Row → List E → Done → Type 0 where
  NoneLooked : HaveLooked looks xs d 0 [] [] d
  OneLooked : (n : ℕ) (x : A) (rows more : List Row) (given : List E) (one : E) (e f : Done) → HaveLooked looks xs d n rows given e → slice_get xs n ≡ Some x → looks n x e more one f
      → HaveLooked looks xs d (n + 1) (rows ++ more) (given ++ one ∷ []) f

-- The first items of a list were looked at, and perhaps a part of the next one.
pub data HaveBegun {A E : Type 0} (looks : ℕ → A → Done → List Row → E → Done → Type 0) (begins : ℕ → A → Done → List Row → Type 0) (xs : List A) (d : Done) : List Row → Type 0 where
  Between : (n : ℕ) (rows : List Row) (given : List E) (e : Done) → HaveLooked looks xs d n rows given e → HaveBegun looks begins xs d rows
  Within : (n : ℕ) (x : A) (rows more : List Row) (given : List E) (e : Done) → HaveLooked looks xs d n rows given e → slice_get xs n ≡ Some x → begins n x e more
      → HaveBegun looks begins xs d (rows ++ more)

abbrev pub LooksAtMethod : Inliner → ℕ → Class → ℕ → Method → Done → List Row → Option Edit → Done → Type 0
LooksAtMethod i place class k m = LooksAt i class (record { class = place; place = word k }) m

abbrev pub BeginsAtMethod : Inliner → ℕ → Class → ℕ → Method → Done → List Row → Type 0
BeginsAtMethod i place class k m = BeginsAt i class (record { class = place; place = word k }) m

-- those of a class
abbrev pub LooksIn : Inliner → ℕ → Class → Done → List Row → List (Option Edit) → Done → Type 0
LooksIn i place class d = HaveLooked (LooksAtMethod i place class) class.methods d (length class.methods)

abbrev pub LooksInClass : Inliner → ℕ → Class → Done → List Row → List (Option Edit) → Done → Type 0
LooksInClass i k class = LooksIn i (word k) class

abbrev pub BeginsIn : Inliner → ℕ → Class → Done → List Row → Type 0
BeginsIn i place class = HaveBegun (LooksAtMethod i place class) (BeginsAtMethod i place class) class.methods

abbrev pub BeginsInClass : Inliner → ℕ → Class → Done → List Row → Type 0
BeginsInClass i k class = BeginsIn i (word k) class

-- those of all classes
abbrev pub LooksThrough : Inliner → List Class → Done → List Row → List (List (Option Edit)) → Done → Type 0
LooksThrough i classes d = HaveLooked (LooksInClass i) classes d (length classes)

abbrev pub BeginsThrough : Inliner → List Class → Done → List Row → Type 0
BeginsThrough i classes = HaveBegun (LooksInClass i) (BeginsInClass i) classes

-- ---- the program

-- a list for each method number, empty where its positions stay, or none at all where no call is inlined
abbrev pub origins_if : ℕ → List (List Origin) → List (List Origin)
origins_if count rows = if nat_eq count 0 then [] else rows

-- what the pass looks at
pub record IsFor (p : Program) (h : Hierarchy) (facts : Facts) (admitted : List Bool) (i : Inliner) : Type 0 where
  pub program : i.known.program.now ≡ p
  pub hierarchy : i.known.hierarchy.now ≡ h
  pub known : i.known.facts.now ≡ facts
  pub marks : i.admitted.now ≡ admitted
  pub verifier : ForProgram p h i.verifier
  pub strings : i.numbers.strings.items ≡ []
  pub types : i.numbers.types.items ≡ []

-- the new bodies of all methods
pub record IsPlanned (p : Program) (h : Hierarchy) (facts : Facts) (admitted : List Bool) (d e : Done) (edits : List (List (Option Edit))) (rows : List Row) : Type 0 where
  pub inliner : Inliner
  pub for : IsFor p h facts admitted inliner
  pub looked : LooksThrough inliner p.classes d rows edits e

-- Memory did not suffice: the first asks were made, each as above, and no other.
pub data IsBegun (p : Program) (h : Hierarchy) (facts : Facts) (admitted : List Bool) (d : Done) : List Row → Type 0 where
  Unbegun : IsBegun p h facts admitted d []
  Begins : (i : Inliner) (rows : List Row) → IsFor p h facts admitted i → BeginsThrough i p.classes d rows → IsBegun p h facts admitted d rows

-- The accepted calls of admitted methods inlined, these asks being made: new bodies are put in place of those of some admitted
-- methods, and all else stays. The count is how many of the asks every adviser answered with yes, up to the greatest number of
-- 64 bits, and where it is 0, the program is the same.
pub record IsInlined (p : Program) (h : Hierarchy) (facts : Facts) (admitted : List Bool) (q : Program) (count : ℕ) (origins : List (List Origin)) (rows : List Row) : Type 0 where
  pub edits : List (List (Option Edit))
  pub last : Done
  pub planned : IsPlanned p h facts admitted (nothing_done p) last edits rows
  pub program : q ≡ program_by edits p
  pub origins_are : origins ≡ origins_if count last.origins
  pub counted : count ≡ capped (agreed_count rows)
  pub same : count ≡ 0 → q ≡ p
