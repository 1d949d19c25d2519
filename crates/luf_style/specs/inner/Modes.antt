-- What the modes of the program mean.
use Rattle.luf_doc.specs.Layout as layout
use Rattle.luf_style.specs.declared.mode.Mode.{Mode}
use Rattle.luf_style.specs.declared.mode.Mode.TheVariants.{Outside, Flat, Broken}

abbrev pub mode_as : Mode → layout.Mode
mode_as Outside = layout.outside
mode_as Flat = layout.flat_group
mode_as Broken = layout.broken_group
