-- Each example computes.
use Rattle.std.proofs.Common.{refl}
use Rattle.std.specs.Str.{chars, is_utf8}
use Rattle.std.specs.Str.Lossy.{utf8_valid_len}
use Rattle.ucd_case.specs.CaseFolding.{simple_folding}
use Rattle.ucd_case.specs.SimpleFoldingRows.{simple_folding_rows}
use Rattle.ucd_table.specs.Rows.{value_in}
use Rattle.fsrm_journal.specs.Heads.{has_zeros, has_magic, has_generation, has_version, has_nodes, has_names, has_cluster, has_image}
use Rattle.record_fields.specs.Formats.{number_at, text_at, known_at, optional_at, items_at, listed_at}
use Rattle.record_codec.specs.Fields.{path_of}
use Rattle.fsrm_store.proofs.laws.worked_damage.Goals as goal

pub returns-clause-no_part : goal.returns-clause-no_part
unfolding has_zeros has_magic has_generation has_version has_nodes has_names has_cluster has_image number_at text_at known_at optional_at items_at listed_at path_of simple_folding simple_folding_rows value_in chars is_utf8 utf8_valid_len lib.Utf8.encode
returns-clause-no_part c = refl

pub returns-clause-equal_halves : goal.returns-clause-equal_halves
unfolding has_zeros has_magic has_generation has_version has_nodes has_names has_cluster has_image number_at text_at known_at optional_at items_at listed_at path_of simple_folding simple_folding_rows value_in chars is_utf8 utf8_valid_len lib.Utf8.encode
returns-clause-equal_halves c = refl

pub returns-clause-wrong_version : goal.returns-clause-wrong_version
unfolding has_zeros has_magic has_generation has_version has_nodes has_names has_cluster has_image number_at text_at known_at optional_at items_at listed_at path_of simple_folding simple_folding_rows value_in chars is_utf8 utf8_valid_len lib.Utf8.encode
returns-clause-wrong_version c = refl

pub returns-clause-cut_image : goal.returns-clause-cut_image
unfolding has_zeros has_magic has_generation has_version has_nodes has_names has_cluster has_image number_at text_at known_at optional_at items_at listed_at path_of simple_folding simple_folding_rows value_in chars is_utf8 utf8_valid_len lib.Utf8.encode
returns-clause-cut_image c = refl

pub returns-clause-short_image : goal.returns-clause-short_image
unfolding has_zeros has_magic has_generation has_version has_nodes has_names has_cluster has_image number_at text_at known_at optional_at items_at listed_at path_of simple_folding simple_folding_rows value_in chars is_utf8 utf8_valid_len lib.Utf8.encode
returns-clause-short_image c = refl

pub returns-clause-short_part : goal.returns-clause-short_part
unfolding has_zeros has_magic has_generation has_version has_nodes has_names has_cluster has_image number_at text_at known_at optional_at items_at listed_at path_of simple_folding simple_folding_rows value_in chars is_utf8 utf8_valid_len lib.Utf8.encode
returns-clause-short_part c = refl

pub returns-clause-wrong_rows : goal.returns-clause-wrong_rows
unfolding has_zeros has_magic has_generation has_version has_nodes has_names has_cluster has_image number_at text_at known_at optional_at items_at listed_at path_of simple_folding simple_folding_rows value_in chars is_utf8 utf8_valid_len lib.Utf8.encode
returns-clause-wrong_rows c = refl

pub returns-clause-no_gate : goal.returns-clause-no_gate
unfolding has_zeros has_magic has_generation has_version has_nodes has_names has_cluster has_image number_at text_at known_at optional_at items_at listed_at path_of simple_folding simple_folding_rows value_in chars is_utf8 utf8_valid_len lib.Utf8.encode
returns-clause-no_gate c = refl

pub returns-clause-no_length : goal.returns-clause-no_length
unfolding has_zeros has_magic has_generation has_version has_nodes has_names has_cluster has_image number_at text_at known_at optional_at items_at listed_at path_of simple_folding simple_folding_rows value_in chars is_utf8 utf8_valid_len lib.Utf8.encode
returns-clause-no_length c = refl

pub returns-clause-length_zero : goal.returns-clause-length_zero
unfolding has_zeros has_magic has_generation has_version has_nodes has_names has_cluster has_image number_at text_at known_at optional_at items_at listed_at path_of simple_folding simple_folding_rows value_in chars is_utf8 utf8_valid_len lib.Utf8.encode
returns-clause-length_zero c = refl

pub returns-clause-no_body : goal.returns-clause-no_body
unfolding has_zeros has_magic has_generation has_version has_nodes has_names has_cluster has_image number_at text_at known_at optional_at items_at listed_at path_of simple_folding simple_folding_rows value_in chars is_utf8 utf8_valid_len lib.Utf8.encode
returns-clause-no_body c = refl

pub returns-clause-no_next_gate : goal.returns-clause-no_next_gate
unfolding has_zeros has_magic has_generation has_version has_nodes has_names has_cluster has_image number_at text_at known_at optional_at items_at listed_at path_of simple_folding simple_folding_rows value_in chars is_utf8 utf8_valid_len lib.Utf8.encode
returns-clause-no_next_gate c = refl

pub returns-clause-wrong_kind : goal.returns-clause-wrong_kind
unfolding has_zeros has_magic has_generation has_version has_nodes has_names has_cluster has_image number_at text_at known_at optional_at items_at listed_at path_of simple_folding simple_folding_rows value_in chars is_utf8 utf8_valid_len lib.Utf8.encode
returns-clause-wrong_kind c = refl

pub returns-clause-wrong_owner : goal.returns-clause-wrong_owner
unfolding has_zeros has_magic has_generation has_version has_nodes has_names has_cluster has_image number_at text_at known_at optional_at items_at listed_at path_of simple_folding simple_folding_rows value_in chars is_utf8 utf8_valid_len lib.Utf8.encode
returns-clause-wrong_owner c = refl

pub returns-clause-long_body : goal.returns-clause-long_body
unfolding has_zeros has_magic has_generation has_version has_nodes has_names has_cluster has_image number_at text_at known_at optional_at items_at listed_at path_of simple_folding simple_folding_rows value_in chars is_utf8 utf8_valid_len lib.Utf8.encode
returns-clause-long_body c = refl
