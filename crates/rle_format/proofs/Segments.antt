-- Segments one after the other: their values together, and their bytes.
use mathlib.Core.Path.{◌≡◌, refl, sym}
use mathlib.Core.List.{List, [], ◌∷◌, ◌++◌, append_assoc}
use Prim.Native.Nat.{ℕ, ◌+◌}
use native.Mathlib.Omega.{arith}
use lib.ListN.{length, length-append}
use Rattle.rle_format.specs.Segment.{Segment, segment_values, last_byte_after, value_count, segment_size, segment_bytes, segments_bytes, Encodable}
use Rattle.rle_format.proofs.Segment.{length-segment_values}

-- their values, where `before` is the last byte before the first of them
abbrev pub segments_values : (before : ℕ) → List Segment → List ℕ
segments_values before [] = []
segments_values before (s ∷ ss) = segment_values before s ++ segments_values (last_byte_after before s) ss

-- the number of these
abbrev pub segments_count : List Segment → ℕ
segments_count [] = 0
segments_count (s ∷ ss) = value_count s + segments_count ss

-- the last byte after them
abbrev pub last_byte_after_all : (before : ℕ) → List Segment → ℕ
last_byte_after_all before [] = before
last_byte_after_all before (s ∷ ss) = last_byte_after_all (last_byte_after before s) ss

-- each of them is encodable
abbrev pub AllEncodable : List Segment → Type 0
AllEncodable [] = Unit {0}
AllEncodable (s ∷ ss) = Encodable s × AllEncodable ss

pub length-segment_bytes : (s : Segment) → length (segment_bytes s) ≡ segment_size s
length-segment_bytes s = omega arith

pub length-segments_values : (before : ℕ) (ss : List Segment) → length (segments_values before ss) ≡ segments_count ss
length-segments_values before [] = refl
length-segments_values before (s ∷ ss) = rw (length-append (segment_values before s) (segments_values (last_byte_after before s) ss), length-segment_values, length-segments_values (last_byte_after before s) ss)

pub segments_bytes-append : (xs ys : List Segment) → segments_bytes (xs ++ ys) ≡ segments_bytes xs ++ segments_bytes ys
segments_bytes-append [] ys = refl
segments_bytes-append (x ∷ xs) ys = rw (segments_bytes-append xs ys) (sym (append_assoc (segment_bytes x) (segments_bytes xs) (segments_bytes ys)))

pub segments_values-append : (before : ℕ) (xs ys : List Segment) → segments_values before (xs ++ ys) ≡ segments_values before xs ++ segments_values (last_byte_after_all before xs) ys
segments_values-append before [] ys = refl
segments_values-append before (x ∷ xs) ys =
    rw (segments_values-append (last_byte_after before x) xs ys)
    (sym (append_assoc (segment_values before x) (segments_values (last_byte_after before x) xs) (segments_values (last_byte_after_all (last_byte_after before x) xs) ys)))

pub encodable_append : (xs ys : List Segment) → AllEncodable xs → AllEncodable ys → AllEncodable (xs ++ ys)
encodable_append [] ys v w = w
encodable_append (x ∷ xs) ys v w = (v.0, encodable_append xs ys v.1 w)
