use Rattle.std.proofs.Common.{rules, ◌≡◌, length, refl}
use Rattle.class_places.specs.Words.{word_of}
use Rattle.class_places.proofs.Places.{known_classes}
use Rattle.class_places.proofs.known.classes_of.Goals as goal

pub returns : goal.returns
returns c = λ well resolved places.
    let count : c.word.result ≡ word_of (length c.args.program.now.classes) = search rules in
    known_classes c.args.program.now c.args.hierarchy.now (record { places = c.args.places; count = c.word.result; hierarchy = c.args.hierarchy }) well resolved places count refl
