-- The examples hold: one proof for planes and pictures that are unpacked, one for pictures that are packed, one for streams, one for
-- four-byte pixels, one for chroma samples found by counting.
use mathlib.Core.Path.{◌≡◌, refl}
use mathlib.Core.List.{map}
use Rattle.rle_format.specs.Answer.{stop, prepend}
use Rattle.rle_format.specs.Sides.{check_sides_of}
use Rattle.rle_format.specs.Slice.{overwrite, write_at}
use Rattle.rle_format.specs.Delta.{difference, delta_code, undo_delta, difference_from_code}
use Rattle.rle_format.specs.Segment.{read_segment, raw_count, run_length}
use Rattle.rle_format.specs.Unpack.{unpack_plane, unpack_rows, read_row}
use Rattle.rle_format.specs.Pack.{pack_plane, write_segments, packing, plane_segments, codes_at, row_at, row_segments, scan_segments, split_segments, long_run}
use Rattle.bitmap_format.specs.Checks.{first_refusal_of}
use Rattle.bitmap_format.specs.Colour.{signed_byte, chroma_value_of, clip, ycocg, aycocg_colour}
use Rattle.bitmap_format.specs.Planes.{chroma_side_of, first_plane, second_plane, third_plane, colour_planes, alpha_planes_at, planes_with_alpha_at}
use Rattle.bitmap_format.specs.Pixels.{alpha_at}
use Rattle.bitmap_format.specs.Sizes.{sum_over, min_body_size_of, work_size_of, row_size, image_size_of}
use Rattle.bitmap_format.specs.Image.{sample, chroma_index, colour_at, concat_up_to, image_row, write_rows}
use Rattle.bitmap_format.specs.UnpackPlanes.{add_read, unpack_planes}
use Rattle.bitmap_format.specs.Picture.{is_loss_level_invalid_of, check_picture, write_image, unpack_raw, image_from_work, unpack_rle, unpack_to}
use Rattle.pixel_format.specs.Channel.{strided, channel}
use Rattle.bitmap_format.specs.PackPicture.{picture_segments, raw_samples, raw_body, write_all_or_nothing, any_short, check_pack, pack_body, pack_picture, header_to_send_of}
use Rattle.bitmap_format.specs.Examples.{examples, computed, expected}
use Rattle.bitmap_format.specs.PackExamples as packed
use Rattle.bitmap_format.specs.HeaderByte.{definition_from_byte_of, header_from_byte_of, definition_bits_of, header_to_byte_of}
use Rattle.bitmap_format.specs.Stream.{without_pad, split_rest, split_stream_of, unpack_split, unpack_stream_by, stream_work_size_of, with_header_byte, pack_stream}
use Rattle.bitmap_format.specs.StreamExamples as streams
use Rattle.bitmap_format.specs.PixelExamples as pixels
use Rattle.bitmap_format.specs.Counting.{counter_step, next_in_row, next_row, next_pixel, counted_pixel}
use Rattle.bitmap_format.specs.CountingExamples as counting

pub examples_hold : map computed examples ≡ map expected examples
unfolding pack_plane write_segments packing plane_segments codes_at row_at row_segments scan_segments split_segments long_run delta_code difference unpack_plane unpack_rows read_row read_segment raw_count run_length undo_delta difference_from_code check_sides_of stop prepend overwrite write_at first_refusal_of signed_byte chroma_value_of clip ycocg aycocg_colour chroma_side_of first_plane second_plane third_plane colour_planes alpha_planes_at planes_with_alpha_at alpha_at sum_over min_body_size_of work_size_of row_size image_size_of sample chroma_index colour_at concat_up_to image_row write_rows add_read unpack_planes is_loss_level_invalid_of check_picture write_image unpack_raw image_from_work unpack_rle unpack_to definition_bits_of header_to_byte_of
examples_hold = refl

pub pack_examples_hold : map packed.computed packed.examples ≡ map packed.expected packed.examples
unfolding write_segments plane_segments codes_at row_at row_segments scan_segments split_segments long_run delta_code difference check_sides_of stop prepend overwrite first_refusal_of strided channel picture_segments raw_samples raw_body write_all_or_nothing any_short check_pack pack_body pack_picture header_to_send_of
pack_examples_hold = refl

pub stream_examples_hold : map streams.computed streams.examples ≡ map streams.expected streams.examples
unfolding write_segments plane_segments codes_at row_at row_segments scan_segments split_segments long_run delta_code difference unpack_plane unpack_rows read_row read_segment raw_count run_length undo_delta difference_from_code check_sides_of stop prepend overwrite write_at first_refusal_of signed_byte chroma_value_of clip ycocg aycocg_colour chroma_side_of first_plane second_plane third_plane colour_planes alpha_planes_at planes_with_alpha_at alpha_at sum_over min_body_size_of work_size_of row_size image_size_of sample chroma_index colour_at concat_up_to image_row write_rows add_read unpack_planes is_loss_level_invalid_of check_picture write_image unpack_raw image_from_work unpack_rle unpack_to picture_segments raw_samples raw_body write_all_or_nothing any_short check_pack pack_body pack_picture header_to_send_of definition_from_byte_of header_from_byte_of definition_bits_of header_to_byte_of without_pad split_rest split_stream_of unpack_split unpack_stream_by stream_work_size_of with_header_byte pack_stream
stream_examples_hold = refl

pub pixel_examples_hold : map pixels.computed pixels.examples ≡ map pixels.expected pixels.examples
unfolding unpack_plane unpack_rows read_row read_segment raw_count run_length undo_delta difference_from_code check_sides_of stop prepend overwrite write_at first_refusal_of signed_byte chroma_value_of clip ycocg aycocg_colour chroma_side_of first_plane second_plane third_plane colour_planes alpha_planes_at planes_with_alpha_at alpha_at sum_over min_body_size_of work_size_of row_size image_size_of sample chroma_index colour_at concat_up_to image_row write_rows add_read unpack_planes is_loss_level_invalid_of check_picture write_image unpack_raw image_from_work unpack_rle unpack_to definition_from_byte_of header_from_byte_of without_pad split_rest split_stream_of unpack_split unpack_stream_by stream_work_size_of
pixel_examples_hold = refl

pub counting_examples_hold : map counting.computed counting.examples ≡ map counting.expected counting.examples
unfolding chroma_side_of concat_up_to counter_step next_in_row next_row next_pixel counted_pixel
counting_examples_hold = refl
