-- `write_pixel_rows`: the rows of the planes are those of the picture (`row_is` of ImageLoop.antt).
use Rattle.std.proofs.Common.{ℕ, ◌*◌, ◌+◌, length, refl, sym, ap, ◌∙◌, arith}
use Rattle.rle_format.proofs.Slice.{suffix_room}
use Rattle.pixel_format.specs.Channel.{channel_offsets}
use Rattle.bitmap_format.specs.Planes.{subsampled}
use Rattle.bitmap_format.specs.Pixels.{four_bytes}
use Rattle.bitmap_format.specs.Image.{write_rows}
use Rattle.bitmap_format.proofs.Counting.{start_first, start_next}
use Rattle.bitmap_image.specs.Rows.{row_with, chroma_size_of}
use Rattle.bitmap_image.proofs.ImageLoop.{index_first, index_next, chroma_row_within, row_places, next_start_small, chroma_behind, image_room, alpha_room, row_is, image_start, image_step, image_end, row_size_is}
use Rattle.bitmap_image.proofs.rows.write_pixel_rows.Goals as goal

pub loop-row-init : goal.loop-row-init
loop-row-init c = (index_first _, start_first _ _ _, image_start _ _ _)

pub overflow_add-second : goal.overflow_add-second
overflow_add-second c =
    let p = c.args.shown.colors.picture in
    let l = c.loop-row in
    let small = next_start_small (subsampled p.header.color_plane_definition) p.width p.height l.row l.second p.allowed.wide p.allowed.high c.loop-row-test.true l.invariant.1 in
    omega (arith, c.args.shown.colors.chroma_size)

pub row_samples-samples-requires : goal.row_samples-samples-requires
row_samples-samples-requires c =
    let p = c.args.shown.colors.picture in
    let l = c.loop-row in
    let s = subsampled p.header.color_plane_definition in
    let places =
    row_places s p.width p.height _ _ (length c.args.shown.colors.planes.now) l.row l.second p.allowed.wide p.allowed.high refl refl c.args.shown.colors.room c.loop-row-test.true
    (chroma_row_within s p.width p.height l.row l.second c.loop-row-test.true l.invariant.1) in
    (c.loop-row-test.true, places.second_row, omega (arith, places.third_row, c.args.shown.colors.chroma_size))

pub slice_bounds-write_row-count-in-loop-row : goal.slice_bounds-write_row-count-in-loop-row
slice_bounds-write_row-count-in-loop-row c =
    let p = c.args.shown.colors.picture in
    let l = c.loop-row in
    let fits =
    image_room (four_bytes (channel_offsets c.args.layout)) l.row p.width p.height (length c.args.image.now) (4 * p.width) l.to c.loop-row-test.true p.allowed.wide p.allowed.high refl c.requires.0 l.invariant.0 in
    omega arith

pub slice_bounds-write_row-start-in-loop-row : goal.slice_bounds-write_row-start-in-loop-row
slice_bounds-write_row-start-in-loop-row c =
    let p = c.args.shown.colors.picture in
    let l = c.loop-row in
    let fits =
    image_room (four_bytes (channel_offsets c.args.layout)) l.row p.width p.height (length c.args.image.now) (4 * p.width) l.to c.loop-row-test.true p.allowed.wide p.allowed.high refl c.requires.0 l.invariant.0 in
    omega arith

pub write_row-requires : goal.write_row-requires
write_row-requires c =
    let shown = c.args.shown in
    let p = shown.colors.picture in
    let l = c.loop-row in
    let room = c.row_samples-samples.ensures.room in
    let fits =
    image_room (four_bytes (channel_offsets c.args.layout)) l.row p.width p.height (length c.args.image.now) (4 * p.width) l.to c.loop-row-test.true p.allowed.wide p.allowed.high refl c.requires.0 l.invariant.0 in
    let alpha = alpha_room l.row shown.step p.width p.height (length shown.alpha.now) c.loop-row-test.true p.allowed.high shown.small (shown.rows l.row c.loop-row-test.true) in (
      p.level,
      room.0,
      room.1,
      room.2,
      suffix_room shown.alpha.now (l.row * shown.step) p.width alpha.fits,
      suffix_room l.image l.to (4 * p.width) (omega arith),
      omega arith,
      omega arith,
    )

pub overflow_add-second-in-loop-row : goal.overflow_add-second-in-loop-row
overflow_add-second-in-loop-row c =
    let p = c.args.shown.colors.picture in
    let l = c.loop-row in
    let small = next_start_small (subsampled p.header.color_plane_definition) p.width p.height l.row l.second p.allowed.wide p.allowed.high c.loop-row-test.true l.invariant.1 in
    omega (arith, c.chroma_step-second.ensures)

pub loop-row-preserved : goal.loop-row-preserved
loop-row-preserved c =
    let shown = c.args.shown in
    let p = shown.colors.picture in
    let planes = shown.colors.planes.now in
    let d = p.header.color_plane_definition in
    let l = c.loop-row in
    let s = c.row_samples-samples in
    let r = s.result in
    let w = c.write_row in
    let third =
    chroma_behind (subsampled d) p.width (p.width * p.height) l.row l.second (chroma_size_of p) l.invariant.1 ∙ ap (λ (k : ℕ). l.second + k) (sym shown.colors.chroma_size) in (
      index_next l.row (4 * p.width) l.to l.invariant.0,
      start_next (subsampled d) p.width (p.width * p.height) l.row l.second l.invariant.1 ∙ ap (λ (k : ℕ). l.second + k) (sym c.chroma_step-second.ensures),
      image_step _ l.image _ _ l.row (4 * p.width) l.to _ l.invariant.2 l.invariant.0 w.ensures
          (row_is (four_bytes (channel_offsets c.args.layout)) d p.header.use_alpha planes shown.alpha.now p.width p.height l.row shown.step l.second (l.second + shown.colors.chroma.size) r.first.now r.second.now r.third.now l.invariant.1 third s.ensures.rows.0 s.ensures.rows.1 s.ensures.rows.2)
          w.auto.dst,
    )

pub returns : goal.returns
returns c =
    let shown = c.args.shown in
    let p = shown.colors.picture in
    image_end _ _ _ _ _ _ c.loop-row.invariant.2 (omega arith)
    ∙ ap (λ (k : ℕ). write_rows k (row_with (four_bytes (channel_offsets c.args.layout)) p.header.color_plane_definition p.header.use_alpha p.width p.height shown.colors.planes.now shown.alpha.now shown.step) p.height c.args.image.now)
    (row_size_is (four_bytes (channel_offsets c.args.layout)) p.width _ refl)
