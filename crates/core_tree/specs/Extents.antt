-- The bytes and the alignment of a layout as a call answers them, 2^32 - 1 standing for every greater number of bytes.
use Rattle.std.specs.Prelude.{List, map, take}
use Rattle.core_tree.specs.declared.extent.Extent.{Extent}
use Rattle.core_tree.specs.declared.types.Struct.{Struct}
use Rattle.core_tree.specs.Layout.{Layout, layouts}
use Rattle.core_tree.specs.Heights.{capped}

abbrev pub told : Layout → Extent
told l = record { size = capped l.size; even = l.even }

-- the structs' extents, as far as a type can name structs
unfoldable pub table : List Struct → List Extent
table structs = take 65536 (map told (layouts structs))
