-- What an outside keeps where its conditions are met (ProGuard manual, "Keep options", -keepclassmembers and -keepclasseswithmembers).
use Rattle.std.specs.Prelude.{◌≡◌, ℕ, Bool, false, List, [], ◌++◌, filter, map, Some, None, slice_get}
use Rattle.call_graph.specs.Closed.{IsClosedSet}
use Rattle.call_graph.specs.Facts.{Fits}
use Rattle.call_graph.specs.Least.{IsLeastSet}
use Rattle.call_graph.specs.declared.live_set.LiveSet.{LiveSet}
use Rattle.program_model.specs.declared.pass.ClassIf.{ClassIf}
use Rattle.program_model.specs.declared.pass.Outside.{Outside}
use Rattle.program_model.specs.declared.program.Program.{Program}
use Rattle.reach.specs.Kept.{is_marked}
use Rattle.reach.specs.declared.closing.Kept.{Kept}

-- a field of a program whose class is live
abbrev pub is_field_met : Program → LiveSet → ℕ → Bool
is_field_met p s n = elim (slice_get p.fields n) [ Some f ↦ is_marked s.classes.items f.class | None ↦ false ]

-- a method of a program whose class is live
abbrev pub is_method_met : Program → LiveSet → ℕ → Bool
is_method_met p s n = elim (slice_get p.methods n) [ Some m ↦ is_marked s.classes.items m.class | None ↦ false ]

-- a class whose owner is live
abbrev pub is_class_met : LiveSet → ClassIf → Bool
is_class_met s one = is_marked s.classes.items one.owner

-- the classes of conditions
abbrev pub classes_of : List ClassIf → List ℕ
classes_of ones = map (λ one. one.class) ones

-- Behind what is kept anyway stands what is kept under a condition that these marks meet, each in its order.
pub record KeepsBy (p : Program) (s : LiveSet) (o : Outside) (k : Kept) : Type 0 where
  pub classes : k.classes.items ≡ o.classes ++ classes_of (filter (is_class_met s) o.classes_if)
  pub fields : k.fields.items ≡ o.fields ++ filter (is_field_met p s) o.fields_if
  pub methods : k.methods.items ≡ o.methods ++ filter (is_method_met p s) o.methods_if

-- Just the conditions are met whose class is live: in the least set that is closed under what the outside keeps, its conditions among them.
pub record KeepsAsLive (p : Program) (o : Outside) (k : Kept) : Type 0 where
  pub live : LiveSet
  pub sized : Fits p live
  pub closed : IsClosedSet p o live
  pub least : IsLeastSet p o live
  pub keeps : KeepsBy p live o k

-- So it is with the numbers that an outside keeps, and it has no condition left. Flags and marked methods are the same.
pub record Closes (p : Program) (o c : Outside) : Type 0 where
  pub kept : Kept
  pub live : KeepsAsLive p o kept
  pub classes : c.classes ≡ kept.classes.items
  pub fields : c.fields ≡ kept.fields.items
  pub methods : c.methods ≡ kept.methods.items
  pub no_classes : c.classes_if ≡ []
  pub no_fields : c.fields_if ≡ []
  pub no_methods : c.methods_if ≡ []
  pub silent : c.silent ≡ o.silent
  pub shut : c.shut ≡ o.shut
  pub shrink : c.shrink ≡ o.shrink
  pub optimise : c.optimise ≡ o.optimise
