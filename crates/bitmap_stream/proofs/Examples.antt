-- The examples hold: one proof for the list.
use mathlib.Core.Path.{◌≡◌, refl}
use mathlib.Core.List.{map}
use Rattle.bitmap_format.specs.HeaderByte.{header_from_byte_of, definition_from_byte_of}
use Rattle.bitmap_format.specs.Stream.{without_pad, split_rest, split_stream_of}
use Rattle.bitmap_stream.specs.Examples.{examples, computed, expected}

pub examples_hold : map computed examples ≡ map expected examples
unfolding split_stream_of split_rest without_pad header_from_byte_of definition_from_byte_of
examples_hold = refl
