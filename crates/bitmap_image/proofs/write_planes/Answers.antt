-- `write_planes`: nothing if the picture cannot be written; else by the form of the pixels, with the rows of the alpha plane or one row of 255.
use Rattle.std.proofs.Common.{length, sym, ◌∙◌, arith}
use Rattle.pixel_format.specs.declared.PixelFormat.TheVariants.{Rgb24, FourBytes}
use Rattle.pixel_format.specs.Channel.{channel_offsets}
use Rattle.rle_format.specs.Answer.{number}
use Rattle.bitmap_format.specs.Pixels.{four_bytes, format_to_form}
use Rattle.bitmap_format.specs.Sizes.{row_size}
use Rattle.bitmap_image.specs.WritePlanes.{write_planes_of}
use Rattle.bitmap_image.proofs.AlphaRows.{three_byte_rows, four_byte_rows, flagged_rows, image_of, plane_rows_fit}
use Rattle.bitmap_image.proofs.PlanesFit.{picture_same, picture_unfit, planes_known, not_written, written}
use Rattle.bitmap_image.proofs.write_planes.Goals as goal

pub returns-in_default : goal.returns-in_default
returns-in_default c =
    let a = c.args in
    not_written (format_to_form a.format) a.header a.width a.height a.planes.now a.alpha.now a.image.now
    (picture_unfit a.format a.header a.width a.height (format_to_form a.format) (number c.in_default.field-0) (length a.planes.now) (length a.alpha.now) (length a.image.now) c.in_default.ensures)

pub returns-then-not-has_planes : goal.returns-then-not-has_planes
returns-then-not-has_planes c =
    let a = c.args in
    let p = c.in-Ok.picture in
    let same = picture_same a.format a.header a.width a.height p.format p.header p.width p.height c.in-Ok.ensures in
    not_written (format_to_form p.format) p.header p.width p.height a.planes.now a.alpha.now a.image.now (sym c.if-not-has_planes.ensures)
    ∙ (λ i. write_planes_of (format_to_form (same i).0) (same i).1 (same i).2 (same i).3 a.planes.now a.alpha.now a.image.now)

pub invariant_of-colors : goal.invariant_of-colors
invariant_of-colors c =
    let a = c.args in
    let p = c.in-Ok.picture in
    let k =
    planes_known (format_to_form p.format) p.header p.width p.height (length a.planes.now) (length a.alpha.now) (length a.image.now) (sym c.if-not-has_planes.ensures) in
    let sizes = c.chroma_sizes-chroma.ensures in
    record { room = k.planes_room; chroma_width = sizes.0; chroma_size = sizes.1; chroma_even = sizes.2 }

pub invariant_of-colors-then-picture : goal.invariant_of-colors-then-picture
invariant_of-colors-then-picture c =
    let a = c.args in
    let p = c.in-Ok.picture in
    let k =
    planes_known (format_to_form p.format) p.header p.width p.height (length a.planes.now) (length a.alpha.now) (length a.image.now) (sym c.if-not-has_planes.ensures) in
    let sizes = c.chroma_sizes-chroma.ensures in
    record { room = k.planes_room; chroma_width = sizes.0; chroma_size = sizes.1; chroma_even = sizes.2 }

pub invariant_of-colors-then-picture-le-NARROW_WIDTH : goal.invariant_of-colors-then-picture-le-NARROW_WIDTH
invariant_of-colors-then-picture-le-NARROW_WIDTH c =
    let a = c.args in
    let p = c.in-Ok.picture in
    let k =
    planes_known (format_to_form p.format) p.header p.width p.height (length a.planes.now) (length a.alpha.now) (length a.image.now) (sym c.if-not-has_planes.ensures) in
    let sizes = c.chroma_sizes-chroma.ensures in
    record { room = k.planes_room; chroma_width = sizes.0; chroma_size = sizes.1; chroma_even = sizes.2 }

pub invariant_of-colors-else-picture-le-NARROW_WIDTH : goal.invariant_of-colors-else-picture-le-NARROW_WIDTH
invariant_of-colors-else-picture-le-NARROW_WIDTH c =
    let a = c.args in
    let p = c.in-Ok.picture in
    let k =
    planes_known (format_to_form p.format) p.header p.width p.height (length a.planes.now) (length a.alpha.now) (length a.image.now) (sym c.if-not-has_planes.ensures) in
    let sizes = c.chroma_sizes-chroma.ensures in
    record { room = k.planes_room; chroma_width = sizes.0; chroma_size = sizes.1; chroma_even = sizes.2 }

pub write_rgb24_rows-requires : goal.write_rgb24_rows-requires
write_rgb24_rows-requires c =
    let a = c.args in
    let p = c.in-Ok.picture in
    let k =
    planes_known (format_to_form p.format) p.header p.width p.height (length a.planes.now) (length a.alpha.now) (length a.image.now) (sym c.if-not-has_planes.ensures) in
    image_of p.format Rgb24 p.width p.height _ c.in_default-format.is k.image_room

pub invariant_of-shown : goal.invariant_of-shown
invariant_of-shown c =
    let a = c.args in
    let p = c.in-Ok.picture in
    let k =
    planes_known (format_to_form p.format) p.header p.width p.height (length a.planes.now) (length a.alpha.now) (length a.image.now) (sym c.if-not-has_planes.ensures) in
    record { small = p.allowed.wide; rows = plane_rows_fit p.header.use_alpha p.format c.in-FourBytes.layout p.width p.height _ c.in-FourBytes.is c.if-picture.true k.alpha_room }

pub write_with_alpha-requires : goal.write_with_alpha-requires
write_with_alpha-requires c =
    let a = c.args in
    let p = c.in-Ok.picture in
    let k =
    planes_known (format_to_form p.format) p.header p.width p.height (length a.planes.now) (length a.alpha.now) (length a.image.now) (sym c.if-not-has_planes.ensures) in
    image_of p.format (FourBytes c.in-FourBytes.layout) p.width p.height _ c.in-FourBytes.is k.image_room

pub write_opaque-requires : goal.write_opaque-requires
write_opaque-requires c =
    let a = c.args in
    let p = c.in-Ok.picture in
    let k =
    planes_known (format_to_form p.format) p.header p.width p.height (length a.planes.now) (length a.alpha.now) (length a.image.now) (sym c.if-not-has_planes.ensures) in
    (c.if-picture.false, c.if-picture-le-NARROW_WIDTH.true, omega arith, image_of p.format (FourBytes c.in-FourBytes.layout) p.width p.height _ c.in-FourBytes.is k.image_room)

pub write_opaque-requires-else-picture-le-NARROW_WIDTH : goal.write_opaque-requires-else-picture-le-NARROW_WIDTH
write_opaque-requires-else-picture-le-NARROW_WIDTH c =
    let a = c.args in
    let p = c.in-Ok.picture in
    let k =
    planes_known (format_to_form p.format) p.header p.width p.height (length a.planes.now) (length a.alpha.now) (length a.image.now) (sym c.if-not-has_planes.ensures) in
    (c.if-picture.false, p.allowed.wide, omega arith, image_of p.format (FourBytes c.in-FourBytes.layout) p.width p.height _ c.in-FourBytes.is k.image_room)

pub returns-in_default-format : goal.returns-in_default-format
returns-in_default-format c =
    let a = c.args in
    let p = c.in-Ok.picture in
    let same = picture_same a.format a.header a.width a.height p.format p.header p.width p.height c.in-Ok.ensures in
    c.write_rgb24_rows.ensures
    ∙ three_byte_rows p.header.color_plane_definition p.header.use_alpha 0 p.width p.height a.planes.now a.alpha.now a.image.now p.format c.in_default-format.is
    ∙ sym (written (format_to_form p.format) p.header p.width p.height a.planes.now a.alpha.now a.image.now (sym c.if-not-has_planes.ensures))
    ∙ (λ i. write_planes_of (format_to_form (same i).0) (same i).1 (same i).2 (same i).3 a.planes.now a.alpha.now a.image.now)

pub returns-then-picture : goal.returns-then-picture
returns-then-picture c =
    let a = c.args in
    let p = c.in-Ok.picture in
    let same = picture_same a.format a.header a.width a.height p.format p.header p.width p.height c.in-Ok.ensures in
    let layout = c.in-FourBytes.layout in
    let form = four_bytes (channel_offsets layout) in
    c.write_with_alpha.ensures
    ∙ flagged_rows p.header.color_plane_definition p.header.use_alpha (row_size form p.width) p.width p.height a.planes.now a.alpha.now a.image.now form c.if-picture.true
    ∙ four_byte_rows p.header.color_plane_definition p.header.use_alpha 0 p.width p.height a.planes.now a.alpha.now a.image.now p.format layout c.in-FourBytes.is
    ∙ sym (written (format_to_form p.format) p.header p.width p.height a.planes.now a.alpha.now a.image.now (sym c.if-not-has_planes.ensures))
    ∙ (λ i. write_planes_of (format_to_form (same i).0) (same i).1 (same i).2 (same i).3 a.planes.now a.alpha.now a.image.now)

pub returns-then-picture-le-NARROW_WIDTH : goal.returns-then-picture-le-NARROW_WIDTH
returns-then-picture-le-NARROW_WIDTH c =
    let a = c.args in
    let p = c.in-Ok.picture in
    let same = picture_same a.format a.header a.width a.height p.format p.header p.width p.height c.in-Ok.ensures in
    let layout = c.in-FourBytes.layout in
    c.write_opaque.ensures a.alpha.now
    ∙ four_byte_rows p.header.color_plane_definition p.header.use_alpha 0 p.width p.height a.planes.now a.alpha.now a.image.now p.format layout c.in-FourBytes.is
    ∙ sym (written (format_to_form p.format) p.header p.width p.height a.planes.now a.alpha.now a.image.now (sym c.if-not-has_planes.ensures))
    ∙ (λ i. write_planes_of (format_to_form (same i).0) (same i).1 (same i).2 (same i).3 a.planes.now a.alpha.now a.image.now)

pub returns-else-picture-le-NARROW_WIDTH : goal.returns-else-picture-le-NARROW_WIDTH
returns-else-picture-le-NARROW_WIDTH c =
    let a = c.args in
    let p = c.in-Ok.picture in
    let same = picture_same a.format a.header a.width a.height p.format p.header p.width p.height c.in-Ok.ensures in
    let layout = c.in-FourBytes.layout in
    c.write_opaque-else-picture-le-NARROW_WIDTH.ensures a.alpha.now
    ∙ four_byte_rows p.header.color_plane_definition p.header.use_alpha 0 p.width p.height a.planes.now a.alpha.now a.image.now p.format layout c.in-FourBytes.is
    ∙ sym (written (format_to_form p.format) p.header p.width p.height a.planes.now a.alpha.now a.image.now (sym c.if-not-has_planes.ensures))
    ∙ (λ i. write_planes_of (format_to_form (same i).0) (same i).1 (same i).2 (same i).3 a.planes.now a.alpha.now a.image.now)
