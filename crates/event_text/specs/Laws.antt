-- Laws of texts.
use Rattle.std.specs.Prelude.{◌≡◌, List}
use Rattle.formula.specs.Worth.{Function}
use Rattle.fort_syntax.specs.Conditions.{ConditionTree}
use Rattle.event_text.specs.declared.marks.Marks.{Marks}
use Rattle.event_text.specs.EventText.{event_text}
use Rattle.event_text.specs.Readable.{AreAlike, IsReadable}

-- lists that can be read back and have one text are alike
abbrev pub OneTextIsOneList : Type 0
OneTextIsOneList =
    (ds es : List Function) (bs cs : List ConditionTree) (l m : Marks) → IsReadable ds bs l → IsReadable es cs m
    → event_text ds bs l ≡ event_text es cs m → AreAlike ds es bs cs l m
